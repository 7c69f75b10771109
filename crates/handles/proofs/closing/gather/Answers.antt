use Rattle.std.proofs.Common.{◌≡◌, ◌∙◌, refl, ap, sym, subst, ◌<◌, List, [], ◌∷◌, ◌++◌, length, get_or}
use Rattle.shared_memory.specs.declared.view.View.{View}
use Rattle.shared_memory.specs.Views.{Face, glued}
use Rattle.handles.proofs.Rows.{inside, middle, push_front}
use Rattle.handles.proofs.closing.gather.Goals as goal

pub loop-other-init : goal.loop-other-init
loop-other-init g c =
    let taker : Face g.row.C.Denot g.row.C-Search.Denot g.row.C-Wrap.Denot = c.in-Some.taker in
    let old : List (Face g.row.C.Denot g.row.C-Search.Denot g.row.C-Wrap.Denot) = c.args.handles.items in
    let new : List (Face g.row.C.Denot g.row.C-Search.Denot g.row.C-Wrap.Denot) = c.pop.new.self.items in
    let e : old ≡ new ++ taker ∷ [] = c.in-Some.ensures.items in
    let at : get_or old (length new) taker ≡ taker = ap (λ l. get_or l (length new) taker) e ∙ middle new taker [] taker in
    let low : length new < length old = subst (λ l. length new < length l) (sym e) (inside new taker []) in (
      ap (λ (h : Face g.row.C.Denot g.row.C-Search.Denot g.row.C-Wrap.Denot). h.table) (sym at) ∙ (c.requires.all.each (length new) taker low).table,
      (taker, [], e, refl),
    )

pub take_in-requires-clause-table : goal.take_in-requires-clause-table
take_in-requires-clause-table g c κs within =
    let i = c.loop-other.invariant in
    let next : Face g.row.C.Denot g.row.C-Search.Denot g.row.C-Wrap.Denot = i.1.0 in
    let rest : List (Face g.row.C.Denot g.row.C-Search.Denot g.row.C-Wrap.Denot) = i.1.1 in
    let other : Face g.row.C.Denot g.row.C-Search.Denot g.row.C-Wrap.Denot = c.in-Some-pop.other in
    let old : List (Face g.row.C.Denot g.row.C-Search.Denot g.row.C-Wrap.Denot) = c.args.handles.items in
    let new : List (Face g.row.C.Denot g.row.C-Search.Denot g.row.C-Wrap.Denot) = c.pop-in-loop-other.new.self.items in
    let e : old ≡ new ++ other ∷ (next ∷ rest) = i.1.2 ∙ ap (λ l. l ++ next ∷ rest) c.in-Some-pop.ensures.items ∙ push_front new other (next ∷ rest) in
    let at : get_or old (length new) other ≡ other = ap (λ l. get_or l (length new) other) e ∙ middle new other (next ∷ rest) other in
    let low : length new < length old = subst (λ l. length new < length l) (sym e) (inside new other (next ∷ rest)) in
    (i.0, ap (λ (h : Face g.row.C.Denot g.row.C-Search.Denot g.row.C-Wrap.Denot). h.table) (sym at) ∙ (c.requires.all.each (length new) other low).table)

pub loop-other-preserved : goal.loop-other-preserved
loop-other-preserved g c =
    let i = c.loop-other.invariant in
    let next : Face g.row.C.Denot g.row.C-Search.Denot g.row.C-Wrap.Denot = i.1.0 in
    let rest : List (Face g.row.C.Denot g.row.C-Search.Denot g.row.C-Wrap.Denot) = i.1.1 in
    let other : Face g.row.C.Denot g.row.C-Search.Denot g.row.C-Wrap.Denot = c.in-Some-pop.other in
    let new : List (Face g.row.C.Denot g.row.C-Search.Denot g.row.C-Wrap.Denot) = c.pop-in-loop-other.new.self.items in (
      c.take_in.ensures.table ∙ i.0,
      (
        other,
        next ∷ rest,
        i.1.2 ∙ ap (λ l. l ++ next ∷ rest) c.in-Some-pop.ensures.items ∙ push_front new other (next ∷ rest),
        c.take_in.ensures.view ∙ ap (λ (v : View g.row.C.Denot g.row.C-Search.Denot g.row.C-Wrap.Denot). glued v other.view) i.1.3,
      ),
    )
