use Rattle.std.proofs.Common.{◌≡◌, ◌∙◌, ap, slice_index_or, sym, subst, vec_capacity}
use denote.Exit.{no}
use denote.Param.Send.{arg_send, arg_sync, param_send, param_sync}
use Rattle.thread_runs.specs.declared.worker.Worker.{Worker}
use Rattle.thread_runs.specs.Work.{CanWork, Worked}
use Rattle.thread_runs.proofs.threads.run_workers.Goals as goal

pub for_each_mut-requires-clause-accepts : goal.for_each_mut-requires-clause-accepts
for_each_mut-requires-clause-accepts g c κs within i p inside is =
    let r = c.requires.ready i p.now inside in (
      subst (λ (w : Worker g.row.C.Denot g.row.C-Search.Denot g.row.C-Wrap.Denot). w.port.table ≡ c.args.shared.now.table) (sym is) r.0,
      (
        subst (λ (w : Worker g.row.C.Denot g.row.C-Search.Denot g.row.C-Wrap.Denot). CanWork g.C.Normalized.form.object w.port.view w.machine w.commands.items w.receipts.items (vec_capacity w.receipts)) (sym is) r.1,
        (
          param_send _ _ (arg_send _ no _ c.type_bounds.send-C),
          param_send _ _ (arg_send _ no _ c.type_bounds.send-T),
          param_send _ _ (arg_send _ no _ c.type_bounds.send-C-Search),
          param_send _ _ (arg_send _ no _ c.type_bounds.send-C-Wrap),
          param_sync _ _ (arg_sync _ no _ c.type_bounds.sync-R),
          param_sync _ _ (arg_sync _ no _ c.type_bounds.sync-C),
          param_sync _ _ (arg_sync _ no _ c.type_bounds.sync-T),
          param_sync _ _ (arg_sync _ no _ c.type_bounds.sync-G),
        ),
      ),
    )

pub returns : goal.returns
returns g c = record {
  done = λ i d inside.
      let at = (c.for_each_mut.ensures i d inside).1 in
      let table = λ (w : Worker g.row.C.Denot g.row.C-Search.Denot g.row.C-Wrap.Denot). w.port.table in
      let old : Worker g.row.C.Denot g.row.C-Search.Denot g.row.C-Wrap.Denot = at.argument.now in
      let new : Worker g.row.C.Denot g.row.C-Search.Denot g.row.C-Wrap.Denot = slice_index_or c.for_each_mut.new.s i d in (
        sym (ap table at.left) ∙ at.call.0 ∙ ap table at.argument_is ∙ (c.requires.ready i d inside).0,
        subst (λ (w : Worker g.row.C.Denot g.row.C-Search.Denot g.row.C-Wrap.Denot). Worked w.port.view new.port.view new.machine w.commands.items new.receipts.items) at.argument_is
            (subst (λ (w : Worker g.row.C.Denot g.row.C-Search.Denot g.row.C-Wrap.Denot). Worked old.port.view w.port.view w.machine old.commands.items w.receipts.items) at.left at.call.1),
      );
}
