-- No change of a seat is of a call to come, after a move: a new change is of a list whose call its seat makes, or of one that
-- the record of its call names.
use Rattle.std.proofs.Common.{◌≡◌, ◌≢◌, ◌∙◌, refl, sym, subst, ap, ℕ, suc, ◌≤◌, ◌⊎◌, ◌==◌, inl, inr, List, [], ◌∷◌, Bool, true, false, slice_get, Option, Some, None, All, AllPairs, arith}
use Rattle.std.proofs.lemmas.Bool.{eq-eqb, and_from}
use Rattle.std.proofs.lemmas.List.Elements.{All-head, All-tail}
use Rattle.lin_report.specs.declared.calls.Outcome.{Outcome}
use Rattle.word_fields.specs.declared.records.RecordPhase as marks
use Rattle.word_fields.specs.declared.records.RecordPhase.TheVariants as record_phases
use Rattle.word_fields.specs.Payloads.{payload_block}
use Rattle.word_fields.specs.Records.{record_number, record_of, record_payload, record_phase}
use Rattle.word_fields.specs.Versioned.{versioned_version}
use Rattle.node_arena.specs.MemoryMap.{record_place}
use Rattle.help_queue.specs.Gathers.{is_open}
use Rattle.normal_traits.specs.declared.lists.Entry.{Entry}
use Rattle.normal_traits.specs.World.{Among, Called, Change, Listed, World}
use Rattle.normal_traits.specs.World.Maker.{By}
use Rattle.normal_traits.specs.NormalForm.{NormalForm}
use Rattle.normal_traits.specs.Laws.{Laws}
use Rattle.normal_traits.specs.Steps.{IsStep, change_of, listed_if, put_word, with_change}
use Rattle.op_record.specs.Outcomes.{outcome_of}
use Rattle.fast_slow_engine.specs.declared.phases.Phase.{Phase}
use Rattle.fast_slow_engine.specs.declared.phases.Phase.TheVariants as phase
use Rattle.fast_slow_engine.specs.declared.setup.Setup.{Setup}
use Rattle.fast_slow_engine.specs.Mechs.{Mech}
use Rattle.fast_slow_engine.specs.Runs.{AreMoves, Move, begun, run_of}
use Rattle.fast_slow_engine.proofs.SameCalls.{same_fed}
use Rattle.offered_blocks.specs.Blocks.{Offer, IsExecuting, is_of}
use Rattle.offered_blocks.specs.OtherSteps.{IsExchange}
use Rattle.offered_blocks.specs.HelperSteps.{Helps}
use Rattle.offered_blocks.specs.Records.{Names, RecordTells}
use Rattle.offered_blocks.proofs.Blocks.Named.{some_offer}
use Rattle.offered_blocks.proofs.Helpers.Helping.{helps_did}
use Rattle.move_kinds.specs.Kinds.{IsUnannounced, Kind}
use Rattle.move_kinds.specs.Kinds.Kind.{quiet, counts, fills, announces, publishes, queues, names, settles, completes, restarts, executes, beside, enters}
use Rattle.move_kinds.specs.Owned.{IsNamedNow, IsOwned}
use Rattle.move_kinds.specs.Owned.IsOwned.{unannounced, named, dead, changed}
use Rattle.move_kinds.proofs.HelperChanges.{new_change}
use Rattle.helper_knowledge.specs.Callers.{called}
use Rattle.helper_knowledge.proofs.Queue.CallsBelow.{numbers_below}
use Rattle.run_laws.proofs.MachinesKept.{begun_number, begun_own, seats_stay}
use Rattle.run_laws.proofs.Steps.{some_same}
use Rattle.run_queue.proofs.QueueLaws.{owners_hold}
use Rattle.run_knowledge.specs.Ghosts.{Held}
use Rattle.run_knowledge.specs.Identities.{Keeper, kept_list}
use Rattle.run_knowledge.specs.Identities.Keeper.{holder, named as at_block}
use Rattle.run_knowledge.specs.Lists.{HoldsIn}
use Rattle.run_knowledge.specs.RunGhosts.{ghost_of, world_of}
use Rattle.run_knowledge.specs.Kept.{IsKept}
use Rattle.run_knowledge.specs.Tells.{ChangesBelow, IsFollowed}
use Rattle.run_knowledge.specs.Tells.IsFollowed.{with_seat, dead as gone_dead, changed as has_changed}
use Rattle.run_knowledge.proofs.Holding.HeldLists.{lists_held}
use Rattle.run_knowledge.proofs.Names.Comes.{held_listed, offered_listed}
use Rattle.run_knowledge.proofs.Names.Journal.{won_came}
use Rattle.run_knowledge.proofs.Words.Moved.{seen_by}
use Rattle.run_knowledge.proofs.Words.Seats.{machine_after}
use Rattle.run_knowledge.proofs.Bounds.InKept.{keeps_queue}
use Rattle.run_knowledge.proofs.InRuns.Leaves.{kind}

abbrev pub DifferentLists : Change → Change → Type 0
DifferentLists a b = a.list.identity ≢ b.list.identity

all_of : (P : Change → Type 0) (changes : List Change) (change : Change) → All P changes → Among change changes → P change
all_of P [] change each among = absurd among
all_of P (x ∷ xs) change each (inl same) = subst P (sym same) (All-head P x xs each)
all_of P (x ∷ xs) change each (inr among) = all_of P xs change (All-tail P x xs each) among

-- the first differs from each other
pub first_differs : (x : Change) (xs : List Change) (change : Change) → AllPairs DifferentLists (x ∷ xs) → Among change xs → DifferentLists x change
first_differs x xs change pairs among = all_of (DifferentLists x) xs change (λ k d inside. pairs 0 (suc k) d (omega arith) (omega arith)) among

-- a list that is held is of the machine's call
pub held_call : {S W : Type 0} (form : NormalForm S W) (at : Phase S W) (mech : Mech S W) (held : Held S) → HoldsIn form at mech (Some held) → held.list.call ≡ called mech
held_call form phase.Idle mech held is = absurd cc
held_call form phase.Begin mech held is = absurd cc
held_call form phase.Look mech held is = absurd cc
held_call form (phase.Generate s step) mech held is = absurd cc
held_call form (phase.Apply run stores step) mech held is = is.held_by.call
held_call form (phase.Wrap w) mech held is = is.call
held_call form (phase.Announce step) mech held is = absurd cc
held_call form (phase.Enter owner) mech held is = absurd cc
held_call form phase.Drive mech held is = absurd cc
held_call form (phase.Help drives help) mech held is = absurd cc
held_call form phase.Collect mech held is = absurd cc
held_call form (phase.Value reference) mech held is = absurd cc
held_call form (phase.End reply) mech held is = absurd cc

-- a record that is in Executing or Wrapping is open, and names a block
opened_by : (p : marks.RecordPhase) → (p ≡ record_phases.Executing) ⊎ (p ≡ record_phases.Wrapping) → is_open p ≡ true
opened_by p (inl is) = ap is_open is
opened_by p (inr is) = ap is_open is

module _ {S W : Type 0} (form : NormalForm S W) (world : World) (offers : ℕ → Option (Offer S)) (call : Called) (begun' : ℕ) where
  names_by : (p : marks.RecordPhase) (payload : ℕ) (told : Option Outcome) → (p ≡ record_phases.Executing) ⊎ (p ≡ record_phases.Wrapping) → RecordTells form world offers call begun' p payload told → Names form world offers call begun' (payload_block payload)
  names_by record_phases.Executing payload told is tells = tells
  names_by record_phases.Wrapping payload told is tells = tells.0
  names_by record_phases.Idle payload told is tells = absurd (elim is [ inl e ↦ cc | inr e ↦ cc ])
  names_by record_phases.Generate payload told is tells = absurd (elim is [ inl e ↦ cc | inr e ↦ cc ])
  names_by record_phases.Completed payload told is tells = absurd (elim is [ inl e ↦ cc | inr e ↦ cc ])

module _ {S W : Type 0} (form : NormalForm S W) (laws : Laws form) (setup : Setup) (older : List Move) (move : Move) (mech : Mech S W) (are : AreMoves form setup (move ∷ older))
    (at : slice_get (run_of form setup older).mechs move.seat ≡ Some mech) (kept : IsKept form setup older) where
  abbrev world : World
  world = world_of form setup older

  abbrev after : World
  after = world_of form setup (move ∷ older)

  abbrev offers : ℕ → Option (Offer S)
  offers = (ghost_of form setup older).offers

  abbrev offers' : ℕ → Option (Offer S)
  offers' = (ghost_of form setup (move ∷ older)).offers

  -- the call of the list has begun
  abbrev HasBegun : Listed → Type 0
  HasBegun list = (seat : ℕ) (mate : Mech S W) → slice_get (run_of form setup older).mechs seat ≡ Some mate → list.call.seat ≡ mate.seat → list.call.number ≤ mate.number

  seat_of : (seat : ℕ) (mate : Mech S W) → slice_get (run_of form setup older).mechs seat ≡ Some mate → mate.seat ≡ seat
  seat_of seat mate found = ((seats_stay form setup older are.0).own seat mate found).seat

  -- a list of the call that a seat makes
  own_begun : (list : Listed) (seat : ℕ) (mate : Mech S W) → slice_get (run_of form setup older).mechs seat ≡ Some mate → list.call ≡ called mate → HasBegun list
  own_begun list seat mate found is seat' mate' found' same =
      let here : seat ≡ seat' = sym (seat_of seat mate found) ∙ sym (ap (λ (c : Called). c.seat) is) ∙ same ∙ seat_of seat' mate' found' in
      let one : mate ≡ mate' = some_same mate mate' (sym found ∙ subst (λ s. slice_get (run_of form setup older).mechs s ≡ Some mate') (sym here) found') in
      let number : list.call.number ≡ mate'.number = ap (λ (c : Called). c.number) is ∙ ap (λ (m : Mech S W). m.number) one in
      omega (arith, number)

  -- one that a seat holds
  held_begun : (seat : ℕ) (mate : Mech S W) → slice_get (run_of form setup older).mechs seat ≡ Some mate → (held : Held S) → ((ghost_of form setup older).seats seat).held ≡ Some held → HasBegun held.list
  held_begun seat mate found held has =
      let holds : HoldsIn form mate.phase mate (Some held) = subst (HoldsIn form mate.phase mate) has (lists_held form setup older are.0 seat mate found) in
      own_begun held.list seat mate found (held_call form mate.phase mate held holds)

  -- one that is executed, by the record of its call
  executing_begun : (list : Listed) → IsExecuting world list → HasBegun list
  executing_begun list is seat mate found same =
      let below = (numbers_below form setup older are.0 (keeps_queue form setup older are.0 kept) seat mate found).0 in
      let number = is.number in
      let here : record_number (world.words (record_place list.call.seat)) ≡ record_number (world.words (record_place seat)) = ap (λ s. record_number (world.words (record_place s))) (same ∙ seat_of seat mate found) in
      omega (arith, below, number, here)

  -- one that the record of its seat names: it is of the call that the record tells of
  named_number : (list : Listed) → IsNamedNow world offers list → (mate : Mech S W) (count block : ℕ) → Names form world offers (called mate) count block → block ≡ list.block → list.call.number ≡ mate.number
  named_number list now mate count block n same =
      let one : n.offer ≡ now.offer = some_offer n.offer now.offer (offers list.block) (subst (λ b. offers b ≡ Some n.offer) same n.stands) now.stands in
      ap (λ (l : Listed). l.call.number) (sym now.list_is) ∙ ap (λ (o : Offer S). o.list.call.number) (sym one) ∙ ap (λ (c : Called). c.number) n.call_is

  named_begun : (list : Listed) → IsNamedNow world offers list → HasBegun list
  named_begun list now seat mate found same =
      let keeps = keeps_queue form setup older are.0 kept in
      let here : list.call.seat ≡ seat = same ∙ seat_of seat mate found in
      let word = world.words (record_place mate.seat) in
      let word_is : world.words (record_place list.call.seat) ≡ word = ap (λ s. world.words (record_place s)) same in
      let seat_word : world.words (record_place seat) ≡ word = ap (λ s. world.words (record_place s)) (sym (seat_of seat mate found)) in
      let p : (record_phase word ≡ record_phases.Executing) ⊎ (record_phase word ≡ record_phases.Wrapping) =
      elim now.phase [ inl e ↦ inl (ap record_phase (sym word_is) ∙ e) | inr e ↦ inr (ap record_phase (sym word_is) ∙ e) ] in
      let owns = (owners_hold form setup older are.0 keeps seat mate found).0 (ap (λ w. is_open (record_phase w)) seat_word ∙ opened_by (record_phase word) p) in
      let known = kept.seats seat mate found in
      let right = known.record_tells (ap record_number (sym seat_word) ∙ owns.0) in
      let n = names_by form world offers (called mate) _ (record_phase word) (record_payload word) (outcome_of (record_of word)) p right in
      let number = named_number list now mate _ (payload_block (record_payload word)) n (ap (λ w. payload_block (record_payload w)) (sym word_is) ∙ now.block) in
      omega (arith, number)

  -- ---- a new change

  -- a list whose change is new was not dead, and had made none
  not_dead : {A : Type 0} (list : Listed) → IsStep form world after → after.changes ≡ change_of form.object list world.changes ∷ world.changes → form.dead list world → A
  not_dead list step made is =
      absurd (laws.of_world.dead_unchanged after list (change_of form.object list world.changes) (laws.shape_kept world after kept.holds.shape step) (laws.dead_kept world after list kept.holds.shape is step)
      (subst (Among (change_of form.object list world.changes)) (sym made) (inl refl)) refl)

  not_changed : {A : Type 0} (list : Listed) → IsStep form world after → after.changes ≡ change_of form.object list world.changes ∷ world.changes → (change : Change) → Among change world.changes → change.list ≡ list → A
  not_changed list step made old among of =
      let pairs = laws.of_world.one_change_a_list after (laws.shape_kept world after kept.holds.shape step) in
      absurd (first_differs (change_of form.object list world.changes) world.changes old (subst (AllPairs DifferentLists) made pairs) among (ap (λ (l : Listed). l.identity) (sym of)))

  followed_begun : (list : Listed) → IsStep form world after → after.changes ≡ change_of form.object list world.changes ∷ world.changes → (seat : ℕ) (mate : Mech S W) → slice_get (run_of form setup older).mechs seat ≡ Some mate
      → list.call.seat ≡ mate.seat → IsFollowed form world (λ s. ((ghost_of form setup older).seats s).held) list → list.call.number ≤ mate.number
  followed_begun list step made seat mate found same (with_seat own has is) =
      let here : list.call.seat ≡ seat = same ∙ seat_of seat mate found in
      subst (λ (l : Listed). l.call.number ≤ mate.number) is
      (held_begun seat mate found own (subst (λ s. ((ghost_of form setup older).seats s).held ≡ Some own) here has) seat mate found (ap (λ (l : Listed). l.call.seat) is ∙ same))
  followed_begun list step made seat mate found same (gone_dead gone) = not_dead list step made gone
  followed_begun list step made seat mate found same (has_changed change among of) = not_changed list step made change among of

  owned_begun : (list : Listed) → IsStep form world after → after.changes ≡ change_of form.object list world.changes ∷ world.changes → (IsUnannounced world list → IsFollowed form world (λ s. ((ghost_of form setup older).seats s).held) list)
      → IsOwned form world offers list → HasBegun list
  owned_begun list step made follows (unannounced fast) = λ seat mate found same. followed_begun list step made seat mate found same (follows fast)
  owned_begun list step made follows (named now) = named_begun list now
  owned_begun list step made follows (dead gone) = not_dead list step made gone
  owned_begun list step made follows (changed change among of) = not_changed list step made change among of

  -- each change is an old one, or of a call that has begun
  abbrev Only : Type 0
  Only = (change : Change) → Among change after.changes → Among change world.changes ⊎ HasBegun change.list

  same_changes : after.changes ≡ world.changes → Only
  same_changes same change among = inl (subst (Among change) same among)

  put_changes : (place put : ℕ) → after ≡ put_word place put world → Only
  put_changes place put is = same_changes (ap (λ (w : World). w.changes) is)

  new_of : (list : Listed) → after.changes ≡ change_of form.object list world.changes ∷ world.changes → HasBegun list → Only
  new_of list made has change among =
      elim (subst (Among change) made among) [ inl new ↦ inr (subst HasBegun (ap (λ (c : Change). c.list) (sym new)) has) | inr old ↦ inl old ]

  helps_only : (block : ℕ) (offer : Offer S) → offers block ≡ Some offer → Helps form world offer after → Only
  helps_only block offer stands helps change among =
      elim (helps_did form laws world offers kept.holds block offer stands after helps) [
        | inl same ↦ same_changes (ap (λ (w : World). w.changes) same) change among
        | inr did ↦
            elim (new_change form world after offers kept.holds.blocks block offer _ did.2.0 did.2.1 change among) [
              | inl old ↦ inl old
              | inr made ↦ inr (subst HasBegun (sym made.0) (executing_begun offer.list made.1))
            ]
      ]

  beside_only : (list : Option Listed) (entry : Entry) → form.adds_beside world entry ≡ list → IsStep form world after → after.changes ≡ with_change form.object list world.changes → Only
  beside_only None entry adds step made = same_changes made
  beside_only (Some list) entry adds step made =
      let took = (laws.of_world.beside world list entry kept.holds.shape adds).1 in
      new_of list made (owned_begun list step made (kept.followed list took) (kept.owned list took))

  -- an entry of a list that its own seat executes: the mover holds it
  entry_begun : (list : Listed) (j : ℕ) (entry : Entry) (added : Option Listed) → IsExchange form world after offers (By list j) added entry → HasBegun list
  entry_begun list j entry added is =
      elim (won_came form setup older move (record { place = entry.target; before = entry.from; after = entry.to; maker = By list j; cause = form.cause_of world (By list j) entry }) list j
      (subst (Among _) (sym is.journal) (inl refl)) refl) [
        | inl old ↦ (let past = kept.holds.blocks.journal.past _ old in let stood = ap (λ w. versioned_version w) is.stood in absurd (omega (arith, past, stood)))
        | inr mine ↦ by_keeper mine.0 mine.1 mine.2
      ]
    where
      by_keeper : (k : Keeper) → kept_list (ghost_of form setup older) k ≡ Some list → (k ≡ holder move.seat) ⊎ ((block : ℕ) × (k ≡ at_block block)) → HasBegun list
      by_keeper k has (inl mine) =
          let held = held_listed ((ghost_of form setup older).seats move.seat).held list (subst (λ x. kept_list (ghost_of form setup older) x ≡ Some list) mine has) in
          subst HasBegun held.2 (held_begun move.seat mech at held.0 held.1)
      by_keeper k has (inr there) =
          let offer = offered_listed (offers there.0) list (subst (λ x. kept_list (ghost_of form setup older) x ≡ Some list) there.1 has) in
          let none = is.beside there.0 offer.0 offer.1 j in
          let some : is_of offer.0.list j (By list j) ≡ true = subst (λ (l : Listed). is_of l j (By list j) ≡ true) (sym offer.2) (and_from (list.identity == list.identity) (j == j) (eq-eqb list.identity list.identity refl) (eq-eqb j j refl)) in
          absurd (let both : true ≡ false = sym some ∙ none in cc)

  enters_only : (adds : Bool) (list : Listed) → HasBegun list → after.changes ≡ with_change form.object (listed_if adds list) world.changes → Only
  enters_only false list has made = same_changes made
  enters_only true list has made = new_of list made has

  kind_only : Kind form world after offers offers' move.seat mech.hand → Only
  kind_only (quiet same o) = same_changes (ap (λ (w : World). w.changes) same)
  kind_only (counts place put is w o) = put_changes place put w
  kind_only (fills block field put in_hand spare small stored clear w o) = put_changes _ put w
  kind_only (announces place put few is w o) = put_changes place put w
  kind_only (publishes put few closed opens w o) = put_changes _ put w
  kind_only (queues put w o) = put_changes _ put w
  kind_only (names head loaded block offer generates in_hand seat can won is) = put_changes _ _ won.after_is
  kind_only (settles head loaded stop offer executing of stopped won o) = put_changes _ _ won.after_is
  kind_only (completes head loaded outcome from won o) = put_changes _ _ won.after_is
  kind_only (restarts head loaded offer wrapping of is_dead won o) = put_changes _ _ won.after_is
  kind_only (executes block offer stands is o) = helps_only block offer stands is
  kind_only (beside entry is uses o) = beside_only (form.adds_beside world entry) entry refl is.step is.changes
  kind_only (enters list j entry fast is uses o) = enters_only (form.adds list j) list (entry_begun list j entry _ is) is.changes

  only : Only
  only = kind_only (kind form laws setup older move mech are at kept)

  -- ---- what holds after the move

  -- of the machines that there were
  pub changes_below_after : (seat : ℕ) (mate : Mech S W) → slice_get (run_of form setup older).mechs seat ≡ Some mate → ChangesBelow after mate
  changes_below_after seat mate found change among of =
      elim (only change among) [
        | inl old ↦ (kept.seats seat mate found).below change old of
        | inr new ↦ new seat mate found of
      ]

  -- and of the one that moved
  pub changes_below_mover : ChangesBelow after (machine_after form setup older move mech)
  changes_below_mover change among of =
      let one = begun move.begins mech in
      let stays = same_fed form one (seen_by form setup older move mech) in
      let number = stays.number in
      let began = begun_number form move.begins mech in
      let own = (begun_own form setup move.seat move.begins mech ((seats_stay form setup older are.0).own move.seat mech at)).seat in
      let same : change.list.call.seat ≡ mech.seat = of ∙ stays.seat ∙ own ∙ sym (seat_of move.seat mech at) in
      let below = changes_below_after move.seat mech at change among same in
      omega (arith, below, number, began)
