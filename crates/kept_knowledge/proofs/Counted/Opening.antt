-- All that is kept holds where a run opens: no record has named a block, nothing took effect, and each seat has made no call.
use Rattle.std.proofs.Common.{◌≡◌, ◌∙◌, refl, sym, subst, ap, ℕ, ◌<◌, [], slice_get, Some, arith, inl, inr}
use Rattle.std.proofs.lemmas.Option.{slice_get_within}
use Rattle.word_fields.specs.declared.records.RecordPhase.TheVariants as record_phases
use Rattle.word_fields.specs.Announced.{op_number, op_word, value_number, value_word}
use Rattle.word_fields.specs.Records.{record_of, record_phase, record_payload}
use Rattle.node_arena.specs.MemoryMap.{op_place, record_place, value_place}
use Rattle.node_arena.proofs.Openings.{opens_zero_at, opens_first_version}
use Rattle.normal_traits.specs.World.{World}
use Rattle.normal_traits.specs.NormalForm.{NormalForm}
use Rattle.normal_traits.specs.Laws.{Laws, opening_world}
use Rattle.op_record.specs.Outcomes.{outcome_of}
use Rattle.fast_slow_engine.specs.declared.setup.Setup.{Setup}
use Rattle.fast_slow_engine.specs.Mechs.{Mech}
use Rattle.fast_slow_engine.specs.PhaseTable.{mech_new}
use Rattle.fast_slow_engine.specs.Runs.{run_of}
use Rattle.offered_blocks.specs.Blocks.{Offer}
use Rattle.offered_blocks.specs.Holds.{HasOffers, no_offers}
use Rattle.offered_blocks.specs.Records.{RecordIsRight, RecordTells}
use Rattle.offered_blocks.proofs.LawsOfBlocks.{opens_holding}
use Rattle.helper_knowledge.specs.Callers.{Caller, called}
use Rattle.run_laws.proofs.MachinesKept.{new_mech, seats_stay}
use Rattle.run_knowledge.specs.Ghosts.{opening_seat}
use Rattle.run_knowledge.specs.RunGhosts.{ghost_of, world_of}
use Rattle.run_knowledge.specs.Kept.{IsKept, KnowsWell, VersionsCount, callers_in}
use Rattle.run_knowledge.specs.Tells.{IsAnnounced}
use Rattle.run_knowledge.proofs.Words.Opens.{world_opens}

phase_0 : record_phase 0 ≡ record_phases.Idle
unfolding record_phase Rattle.word_fields.specs.Fields.field_of
phase_0 = refl

op_0 : op_number 0 ≡ 0
unfolding op_number Rattle.word_fields.specs.Fields.field_of
op_0 = omega arith

value_0 : value_number 0 ≡ 0
unfolding value_number Rattle.word_fields.specs.Fields.field_of
value_0 = omega arith

op_word_0 : op_word 0 0 0 ≡ 0
unfolding op_word
op_word_0 = omega arith

value_word_0 : value_word 0 0 ≡ 0
unfolding value_word
value_word_0 = omega arith

none_offered : {S A : Type 0} (block : ℕ) (offer : Offer S) → no_offers block ≡ Some offer → A
none_offered block offer stands = absurd cc

module _ {S W : Type 0} (form : NormalForm S W) where
  opening_versions : VersionsCount form (opening_world form)
  opening_versions place versioned may = (let none = opens_first_version form.opening form.opens place in omega (arith, none))

  -- what a new machine tells and knows
  module _ (setup : Setup) (seat : ℕ) (few : seat < 8) where
    abbrev new : Mech S W
    new = mech_new seat setup

    opening_announced : IsAnnounced (opening_world form) new 0
    opening_announced =
        let op = opens_zero_at form.opening form.opens (op_place seat) (inl (omega (arith, few))) in
        let value = opens_zero_at form.opening form.opens (value_place seat) (inr (omega arith, omega (arith, few))) in
        let op' = ap op_number op ∙ op_0 in
        let value' = ap value_number value ∙ value_0 in
        record {
          own = record { op = λ same. op ∙ sym op_word_0; value = λ same. value ∙ sym value_word_0 };
          op = omega (arith, op');
          value = omega (arith, value');
        }

    idle_tells : (word : ℕ) → word ≡ 0 → RecordIsRight form (opening_world form) no_offers (called new) 0 (record_of word)
    idle_tells word is =
        let idle : record_phase word ≡ record_phases.Idle = ap record_phase is ∙ phase_0 in
        subst (λ p. RecordTells form (opening_world form) no_offers (called new) 0 p (record_payload word) (outcome_of (record_of word))) (sym idle) tt

    opening_knows : (callers : ℕ → Caller) → KnowsWell form new (opening_seat S) (opening_world form) no_offers callers
    opening_knows callers = record {
      command = λ some. absurd (omega (arith, some));
      knows = tt;
      tells = tt;
      counts = tt;
      early = omega arith;
      announced = opening_announced;
      below = λ change among of. absurd among;
      record_tells = λ same. idle_tells (form.opening (record_place seat)) (opens_zero_at form.opening form.opens (record_place seat) (inl (omega (arith, few))));
    }

module _ {S W : Type 0} (form : NormalForm S W) (laws : Laws form) (setup : Setup) where
  opening_seats : (seat : ℕ) (mech : Mech S W) → slice_get (run_of form setup []).mechs seat ≡ Some mech
      → KnowsWell form mech ((ghost_of form setup []).seats seat) (world_of form setup []) (ghost_of form setup []).offers (callers_in (run_of form setup []) (ghost_of form setup []))
  opening_seats seat mech found =
      let count = (seats_stay form setup [] tt).count in
      let inside = slice_get_within (run_of form setup []).mechs seat mech found in
      let most = setup.few_seats in
      let few : seat < 8 = omega (arith, count, inside, most) in
      let callers = callers_in (run_of form setup []) (ghost_of form setup []) in
      subst (λ (m : Mech S W). KnowsWell form m (opening_seat S) (world_of form setup []) no_offers callers) (sym (new_mech form setup seat mech found))
      (subst (λ (w : World). KnowsWell form (mech_new seat setup) (opening_seat S) w no_offers callers) (sym (world_opens form setup)) (opening_knows form setup seat few callers))

  -- a run opens with all that is kept
  pub opening_kept : IsKept form setup []
  opening_kept = record {
    ticks = tt;
    claims = tt;
    queue = tt;
    holds = subst (λ (w : World). HasOffers form w no_offers) (sym (world_opens form setup)) (opens_holding form laws);
    contents = λ block offer stands. none_offered block offer stands;
    owned = λ list took. absurd took.won;
    followed = λ list took fast. absurd took.won;
    versions = subst (VersionsCount form) (sym (world_opens form setup)) (opening_versions form);
    seats = opening_seats;
  }
