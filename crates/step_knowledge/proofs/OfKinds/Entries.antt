-- A won entry of a list that its own seat executes is one of the kinds: an allowed step beside all named blocks, and the block
-- that it may use is that in hand.
use Rattle.std.proofs.Common.{◌≡◌, ◌≢◌, ◌∙◌, refl, sym, ap, subst, ℕ, ◌+◌, ◌^◌, ◌<◌, ◌==◌, ◌||◌, nat_lt, if◌then◌else◌, Bool, true, false, inl, inr, ◌⊎◌, List, slice_get, Option, Some, arith}
use Rattle.std.proofs.lemmas.Bool.{cases_Bool, cases_eq, lt-ltb}
use Rattle.std.proofs.lemmas.Bool.Decides.{nat_tests}
use Rattle.std.proofs.lemmas.Option.{slice_get_within}
use Rattle.arrayvec.specs.ArrayVec.{ArrayVec}
use Rattle.word_fields.specs.Records.{record_number}
use Rattle.word_fields.specs.Versioned.{cleared_word, versioned_version}
use Rattle.word_fields.proofs.ChangedWords.{cleared-changed, version-changed_below}
use Rattle.node_arena.specs.MemoryMap.{record_place}
use Rattle.normal_traits.specs.declared.lists.Entry.{Entry}
use Rattle.normal_traits.specs.World.{Called, Listed, World}
use Rattle.normal_traits.specs.World.Maker.{By}
use Rattle.normal_traits.specs.NormalForm.{NormalForm}
use Rattle.normal_traits.specs.Steps.{IsExchanged, IsFresh, IsStep, exchanged, listed_if, using_block}
use Rattle.normal_traits.specs.Steps.IsStep.{first, first_of_block, second}
use Rattle.normal_traits.specs.Laws.{IsGoodEntry, Laws}
use Rattle.normal_traits.proofs.Stays.{entry_good}
use Rattle.cas_executor.specs.FastRuns.{FastWalk}
use Rattle.fast_slow_engine.specs.Mechs.{Mech}
use Rattle.offered_blocks.specs.BesideLaws.{list_entered}
use Rattle.offered_blocks.specs.Blocks.{Offer}
use Rattle.offered_blocks.specs.Holds.{IsUnnamed}
use Rattle.offered_blocks.specs.OtherSteps.{IsSpare}
use Rattle.offered_blocks.proofs.LawsOfBlocks.{entries_beside}
use Rattle.move_kinds.specs.Kinds.{Kind}
use Rattle.move_kinds.specs.Kinds.Kind.{enters}
use Rattle.run_world.specs.Ghosts.{Held, uses_block}
use Rattle.run_world.specs.InHand.{ExecutesWith}
use Rattle.run_world.specs.Lists.{IsOffering}
use Rattle.run_world.specs.Worlds.{won_entry}
use Rattle.step_knowledge.specs.Known.{KnowsRun}
use Rattle.step_knowledge.specs.Moves.{HasRoom}

-- a block that becomes used is the one
used_one : (block at : ℕ) (used : ℕ → Bool) → using_block block used at ≡ true → (used at ≡ true) ⊎ (at ≡ block)
used_one block at used on =
    elim (cases_eq at block) [
      | inl same ↦ inr same
      | inr apart ↦ inl (let test : (at == block) ≡ false = grind (arith, nat_tests) in sym (ap (λ (b : Bool). b || used at) test) ∙ on)
    ]

used_more : (b c : Bool) → c ≡ true → (b || c) ≡ true
used_more true c on = refl
used_more false c on = on

module _ {S W : Type 0} (form : NormalForm S W) (laws : Laws form) (world : World) (shape : form.shape world) (room : HasRoom form world) (offers : ℕ → Option (Offer S)) (mech : Mech S W) (held : Held S)
    (run : FastWalk) (stores : ArrayVec (ℕ × ℕ)) (knows : KnowsRun form world run held) (offering : IsOffering form run stores mech held) (entry : Entry) (next : slice_get run.entries run.next ≡ Some entry)
    (found : world.words entry.target ≡ entry.from) where
  abbrev list : Listed
  list = held.list

  abbrev Blocks : Type 0
  Blocks = ℕ → Bool

  listed : slice_get list.entries run.next ≡ Some entry
  listed = ap (λ (entries : List Entry). slice_get entries run.next) offering.entries ∙ next

  good : IsGoodEntry form world entry
  good = entry_good form laws world list held.offering held.since run.next entry shape knows.offered listed

  raised : versioned_version entry.to ≡ versioned_version entry.from + 1
  raised =
      let least = room entry.target good.word good.versioned in
      let below : versioned_version entry.from + 1 < 2 ^ 39 = subst (λ w. versioned_version w + 1 < 2 ^ 39) found least in
      ap versioned_version good.changed.2 ∙ version-changed_below entry.from good.changed.0 good.changed.1 below

  pub exchanged_well : IsExchanged entry entry.to
  exchanged_well = record { to = ap cleared_word good.changed.2 ∙ cleared-changed entry.from good.changed.0 good.changed.1 ∙ sym good.changed.2; raised = raised }

  -- with these blocks used, the entry is an allowed step, which makes its seat's move one of the kinds
  record Wins (used : Blocks) : Type 0 where
    after : won_entry form list run.next (Some entry) world ≡ list_entered form world list run.next entry used
    step : IsStep form world (list_entered form world list run.next entry used)
    more : (block : ℕ) → world.used block ≡ true → used block ≡ true
    few : (block : ℕ) → used block ≡ true → (world.used block ≡ true) ⊎ ((mech.hand ≡ Some block) × IsUnnamed offers block)

  module _ (few : mech.seat < 8) (earlier : record_number (world.words (record_place mech.seat)) < mech.number)
      (apart : (block : ℕ) (offer : Offer S) → offers block ≡ Some offer → list.identity ≢ offer.list.identity) where
    -- the record of its seat is of an earlier call
    unannounced : (list.call.seat < 8) × (record_number (world.words (record_place list.call.seat)) ≢ list.call.number)
    unannounced =
        subst (λ (c : Called). (c.seat < 8) × (record_number (world.words (record_place c.seat)) ≢ c.number)) (sym offering.held_by.call) (few, λ same. absurd (omega (arith, same, earlier)))

    kind_from : (used : Blocks) → Wins used → Kind form world (won_entry form list run.next (Some entry) world) offers offers mech.seat mech.hand
    kind_from used wins =
        subst (λ (w : World). Kind form world w offers offers mech.seat mech.hand) (sym wins.after)
        (enters list run.next entry unannounced
        (entries_beside form laws world offers list held.offering held.since run.next entry used shape knows.offered apart wins.more
        (λ block on. elim (wins.few block on) [ inl was ↦ inl was | inr new ↦ inr new.1 ]) listed found raised wins.step)
        (λ block on. elim (wins.few block on) [ inl was ↦ inl was | inr new ↦ inr new.0 ]) refl)

    -- ---- the first entry

    module _ (zero_th : run.next ≡ 0) where
      fresh : IsFresh world list
      fresh other j same took = knows.none other j same (omega (arith, zero_th)) took

      first_listed : slice_get list.entries 0 ≡ Some entry
      first_listed = subst (λ j. slice_get list.entries j ≡ Some entry) zero_th listed

      -- of a list without a block
      wins_first : list.block ≡ 0 → form.needs_block mech.op ≡ false → Wins world.used
      wins_first none free = record {
        after = subst (λ j. won_entry form list j (Some entry) world ≡ list_entered form world list j entry world.used) (sym zero_th)
            (let test : uses_block list 0 ≡ false = ap (λ n. nat_lt 0 n) none in
            let made = exchanged form (By list 0) (listed_if (form.adds list 0) list) entry entry.to world in
            ap (λ (b : Bool). if b then record { words = made.words; changes = made.changes; used = using_block list.block made.used; journal = made.journal } else made) test);
        step = subst (λ j. IsStep form world (list_entered form world list j entry world.used)) (sym zero_th)
            (first list held.offering held.since entry entry.to knows.offered fresh none (ap (λ (c : Called). form.needs_block c.op) offering.held_by.call ∙ free) first_listed found exchanged_well);
        more = λ block was. was;
        few = λ block on. inl on;
      }

      -- of one with a block
      wins_of_block : IsSpare world offers list.block → mech.hand ≡ Some list.block → Wins (using_block list.block world.used)
      wins_of_block spare hand = record {
        after = subst (λ j. won_entry form list j (Some entry) world ≡ list_entered form world list j entry (using_block list.block world.used)) (sym zero_th)
            (let test : uses_block list 0 ≡ true = lt-ltb 0 list.block spare.some in
            let made = exchanged form (By list 0) (listed_if (form.adds list 0) list) entry entry.to world in
            ap (λ (b : Bool). if b then record { words = made.words; changes = made.changes; used = using_block list.block made.used; journal = made.journal } else made) test);
        step = subst (λ j. IsStep form world (list_entered form world list j entry (using_block list.block world.used))) (sym zero_th)
            (first_of_block list held.offering held.since entry entry.to knows.offered fresh spare.some spare.unused (knows.filled zero_th spare.some) first_listed found exchanged_well);
        more = λ block was. used_more (block == list.block) (world.used block) was;
        few = λ block on. elim (used_one list.block block world.used on) [
          | inl was ↦ inl was
          | inr same ↦ inr (hand ∙ ap (λ b. Some b) (sym same), subst (IsUnnamed offers) (sym same) spare.unnamed)
        ];
      }

    -- ---- the second entry

    wins_second : run.next ≡ 1 → Wins world.used
    wins_second one =
        let at : slice_get list.entries 1 ≡ Some entry = subst (λ j. slice_get list.entries j ≡ Some entry) one listed in
        let within = slice_get_within list.entries 1 entry at in
        let step = second list held.offering held.since entry entry.to knows.offered (knows.took 0 (omega (arith, one)) (omega (arith, within))) (knows.none list 1 refl (omega (arith, one))) at found exchanged_well in
        record {
          after = subst (λ j. won_entry form list j (Some entry) world ≡ list_entered form world list j entry world.used) (sym one) refl;
          step = subst (λ j. IsStep form world (list_entered form world list j entry world.used)) (sym one) step;
          more = λ block was. was;
          few = λ block on. inl on;
        }

    -- a won entry is one of the kinds
    pub entry_kind : ExecutesWith form mech (Some held) → ((block : ℕ) → mech.hand ≡ Some block → (run.next ≡ 0) ⊎ (form.needs_block mech.op ≡ false) → IsSpare world offers block)
        → Kind form world (won_entry form list run.next (Some entry) world) offers offers mech.seat mech.hand
    entry_kind with_block spare =
        elim (cases_eq run.next 0) [
          | inl zero_th ↦
              elim (cases_Bool (form.needs_block mech.op)) [
                | inl needs ↦ kind_from (using_block list.block world.used) (wins_of_block zero_th (spare list.block (with_block.needed needs) (inl zero_th)) (with_block.needed needs))
                | inr free ↦ kind_from world.used (wins_first zero_th (with_block.other free) free)
              ]
          | inr some ↦ kind_from world.used (wins_second (let r = knows.running in omega (arith, some, r.0, r.1)))
        ]
