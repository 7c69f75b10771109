-- Each step of each machine is one of the kinds of moves, by cases on the phase.
use Rattle.std.proofs.Common.{◌≡◌, refl, sym, subst, ℕ, true, inl, inr, Option, Some, None, get_or}
use Rattle.std.proofs.lemmas.Option.{slice_get-get_or}
use Rattle.arrayvec.specs.ArrayVec.{ArrayVec}
use Rattle.step_memory.specs.declared.steps.Seen.{Seen}
use Rattle.word_fields.specs.Announced.{op_word, value_word}
use Rattle.word_fields.specs.Records.{record_word}
use Rattle.word_fields.specs.declared.records.RecordPhase.TheVariants as marks
use Rattle.word_fields.proofs.RecordWords.{phase-word}
use Rattle.node_arena.specs.declared.places.TheConstants.{TICKS, CLAIMS}
use Rattle.node_arena.specs.MemoryMap.{op_place, value_place}
use Rattle.normal_traits.specs.World.{World}
use Rattle.normal_traits.specs.NormalForm.{NormalForm}
use Rattle.normal_traits.specs.Laws.{Laws}
use Rattle.cas_executor.specs.FastRuns.{FastWalk}
use Rattle.fast_slow_engine.specs.declared.phases.Phase.{Phase}
use Rattle.fast_slow_engine.specs.declared.phases.Phase.TheVariants as phase
use Rattle.fast_slow_engine.specs.declared.phases.Announcing.{Announcing}
use Rattle.fast_slow_engine.specs.declared.phases.Announcing.TheVariants as announcing
use Rattle.fast_slow_engine.specs.declared.phases.Generating.TheVariants.{Search, LookForBlock, Claim}
use Rattle.fast_slow_engine.specs.declared.phases.Applying.TheVariants.{Fill, Execute}
use Rattle.fast_slow_engine.specs.Mechs.{Mech}
use Rattle.offered_blocks.specs.Blocks.{Offer}
use Rattle.move_kinds.specs.Kinds.{Kind}
use Rattle.move_kinds.specs.Kinds.Kind.{quiet, counts, announces, publishes}
use Rattle.helper_knowledge.specs.Callers.{Caller}
use Rattle.helper_knowledge.specs.Carried.{OfSome}
use Rattle.helper_knowledge.proofs.Own.OwnKinds.{search_kind, wrap_kind}
use Rattle.run_world.specs.Ghosts.{Held, SeatGhost}
use Rattle.run_world.specs.InHand.{ExecutesWith}
use Rattle.run_world.specs.Lists.{IsOffering}
use Rattle.step_knowledge.specs.Known.{KnowsFill, KnowsRun, KnowsWrap}
use Rattle.step_knowledge.specs.Moves.{Announces, Enters, OwnSteps, RestsMove, StepsAreKinds, StepsIn}
use Rattle.step_knowledge.specs.Moves.Enters.{misses, wins}
use Rattle.step_knowledge.proofs.OfKinds.Entries.{entry_kind}
use Rattle.step_knowledge.proofs.OfKinds.Helping.{help_kind, queue_kind}
use Rattle.step_knowledge.proofs.OfKinds.OwnStores.{own_fills}

module _ {S W : Type 0} (form : NormalForm S W) (laws : Laws form) (world after : World) (offers offers' : ℕ → Option (Offer S)) (callers : ℕ → Caller) (mech : Mech S W) (own own' : SeatGhost S) (identity : ℕ) (seen : Seen) where
  abbrev IsKind : (ℕ → Option (Offer S)) → Type 0
  IsKind o = Kind form world after offers o mech.seat mech.hand

  abbrev Rests : Phase S W → Type 0
  Rests at = RestsMove form world offers callers at mech own

  abbrev Stepped : Phase S W → Type 0
  Stepped at = OwnSteps form world after offers offers' at mech own.held seen

  -- a store into the block of the own list
  fill_kind : (run : FastWalk) (stores : ArrayVec (ℕ × ℕ)) (made : ℕ) (held : Option (Held S)) → Rests (phase.Apply run stores (Fill made)) → own.held ≡ held → OfSome (KnowsFill form world run stores made) held
      → OfSome (IsOffering form run stores mech) held → OfSome (λ (h : Held S). mech.hand ≡ Some h.list.block) held → form.needs_block mech.op ≡ true → Stepped (phase.Apply run stores (Fill made)) → IsKind offers
  fill_kind run stores made None rests is knows offering hand needs steps = absurd knows
  fill_kind run stores made (Some held) rests is knows offering hand needs steps =
      let store = get_or stores.items made (0, 0) in
      let at = slice_get-get_or stores.items made (0, 0) knows.within in
      subst (λ (w : World). Kind form world w offers offers mech.seat mech.hand) (sym (steps store at))
      (own_fills form laws world rests.holds.shape offers run stores made mech held store needs hand offering knows.offered (rests.spare held.list.block hand tt) at)

  -- an entry of it
  entering : (run : FastWalk) (stores : ArrayVec (ℕ × ℕ)) → Rests (phase.Apply run stores Execute) → Enters form world after offers offers' run own.held seen → IsKind offers
  entering run stores rests (misses lost passed same) = quiet same refl
  entering run stores rests (wins list entry holds won next found is) =
      let knows : OfSome (KnowsRun form world run) (Some list) = subst (OfSome (KnowsRun form world run)) holds rests.knows in
      let offering : OfSome (IsOffering form run stores mech) (Some list) = subst (OfSome (IsOffering form run stores mech)) holds rests.lists in
      let block : ExecutesWith form mech (Some list) = subst (ExecutesWith form mech) holds rests.block in
      subst (λ (w : World). Kind form world w offers offers mech.seat mech.hand) (sym is)
      (entry_kind form laws world rests.holds.shape rests.room offers mech list run stores knows offering entry next found rests.few (rests.earlier refl) (λ b offer stands. rests.apart b offer list stands holds) block rests.spare)

  -- a wrap-up's request
  wrapping : (wrap : W) (held : Option (Held S)) → Rests (phase.Wrap wrap) → OfSome (KnowsWrap form world wrap) held → Stepped (phase.Wrap wrap) → IsKind offers
  wrapping wrap None rests knows steps = absurd knows
  wrapping wrap (Some held) rests knows steps =
      wrap_kind form laws world rests.holds.shape offers mech.seat mech.hand wrap after seen held.list held.stop knows.offered.command knows.wraps knows.follows steps

  -- a word of the announcement
  announcing_kind : (at : Announcing) → Rests (phase.Announce at) → Announces form world after offers offers' at mech → IsKind offers
  announcing_kind announcing.Value rests is = announces (value_place mech.seat) (value_word mech.number mech.op.value) rests.few (inl refl) is refl
  announcing_kind announcing.Op rests is = announces (op_place mech.seat) (op_word mech.op.code mech.number mech.op.key) rests.few (inr refl) is refl
  announcing_kind announcing.Record rests is =
      publishes (record_word marks.Generate mech.number 0 0) rests.few (rests.closed refl) (phase-word marks.Generate mech.number 0 0) is refl

  kept : IsKind offers → offers' ≡ offers → IsKind offers'
  kept kind same = subst IsKind (sym same) kind

  pub phase_kind : (at : Phase S W) → Rests at → StepsIn form world after offers offers' at mech own own' identity seen → IsKind offers'
  phase_kind phase.Idle rests is = quiet is.1 is.0
  phase_kind phase.Begin rests is = counts TICKS is.1.0 (inl refl) is.1.1 is.0
  phase_kind phase.Look rests is = quiet is.1 is.0
  phase_kind (phase.Generate s Search) rests is =
      kept (search_kind form laws world rests.holds.shape offers mech.seat mech.hand s after seen mech.op own.carried.since rests.command rests.knows.0 rests.knows.1 is.1) is.0
  phase_kind (phase.Generate s LookForBlock) rests is = quiet is.1 is.0
  phase_kind (phase.Generate s Claim) rests is = counts CLAIMS is.1.0 (inr refl) is.1.1 is.0
  phase_kind (phase.Apply run stores (Fill made)) rests is = kept (fill_kind run stores made own.held rests refl rests.knows rests.lists rests.block.2 rests.block.0 is.1) is.0
  phase_kind (phase.Apply run stores Execute) rests is = kept (entering run stores rests is.1) is.0
  phase_kind (phase.Wrap wrap) rests is = kept (wrapping wrap own.held rests rests.knows is.1) is.0
  phase_kind (phase.Announce at) rests is = kept (announcing_kind at rests is.1) is.0
  phase_kind (phase.Enter owner) rests is = queue_kind form laws world after offers offers' callers rests.holds mech is.1 is.0
  phase_kind phase.Drive rests is = quiet is.1 is.0
  phase_kind (phase.Help drives help) rests is =
      help_kind form laws world after offers offers' callers rests.holds mech help.head own.carried own'.carried identity seen (λ block hand. rests.spare block hand tt) help.at rests.helps rests.knows is
  phase_kind phase.Collect rests is = quiet is.1 is.0
  phase_kind (phase.Value reference) rests is = quiet is.1 is.0
  phase_kind (phase.End reply) rests is = counts TICKS is.1.0 (inl refl) is.1.1 is.0

module _ {S W : Type 0} (form : NormalForm S W) (laws : Laws form) where
  pub steps_are_kinds : StepsAreKinds form
  steps_are_kinds world after offers offers' callers at mech own own' identity seen rests is = phase_kind form laws world after offers offers' callers mech own own' identity seen at rests is
