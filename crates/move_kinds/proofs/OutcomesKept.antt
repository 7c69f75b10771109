-- What a search or a wrap-up has answered stays right where more changes are made.
use Rattle.std.proofs.Common.{◌≡◌, ◌∙◌, refl, sym, subst, ap, ℕ, suc, ◌-◌, ◌≤◌, ◌==◌, ◌||◌, ◌&&◌, not, nat_le, Bool, true, false, List, [], ◌∷◌, ◌++◌, drop, length, length-append, inr, arith}
use Rattle.std.proofs.lemmas.Bool.Decides.{nat_tests}
use Rattle.lin_report.specs.declared.calls.Op.{Op}
use Rattle.lin_report.specs.declared.calls.Outcome.{Outcome}
use Rattle.lin_report.specs.declared.calls.Outcome.TheVariants.{Plain, ValueOf}
use Rattle.lin_report.specs.declared.calls.Reply.{Reply}
use Rattle.lin_report.specs.declared.calls.Reply.TheVariants as reply
use Rattle.lin_report.specs.Object.{Object}
use Rattle.node_arena.specs.declared.places.TheConstants.{NODE_VALUE}
use Rattle.node_arena.specs.MemoryMap.{block_at, field_at, node_place, is_root_place}
use Rattle.node_arena.proofs.PlacesApart.{field_at-node_place, node_place_behind}
use Rattle.normal_traits.specs.World.{Change, Listed, World, Among, ChangedBy, Observes, RightSince, StandsFor, first_changes, held_after, is_state, is_word}
use Rattle.normal_traits.specs.NormalForm.{NormalForm}
use Rattle.normal_traits.specs.Steps.{IsStep}
use Rattle.normal_traits.specs.Laws.{Laws, IsFixed}
use Rattle.normal_traits.proofs.Stays.{word_stays}
use Rattle.move_kinds.specs.Moves.{Grows}

-- what is in a list is in it with more in front
pub among_after : {X : Type 0} (x : X) (newer older : List X) → Among x older → Among x (newer ++ older)
among_after x [] older is = is
among_after x (y ∷ ys) older is = inr (among_after x ys older is)

-- the first changes are the same with others in front
pub first_after : (count : ℕ) (newer changes : List Change) → count ≤ length changes → first_changes count (newer ++ changes) ≡ first_changes count changes
first_after count [] changes few = refl
first_after count (change ∷ newer) changes few =
    let more : length (change ∷ newer ++ changes) - count ≡ suc (length (newer ++ changes) - count) = omega (arith, length-append newer changes, few) in
    ap (λ n. drop n (change ∷ newer ++ changes)) more ∙ first_after count newer changes few

-- a place of a used block that is no state is a word of the client
word_used : (root behind used first state : Bool) → behind ≡ true → used ≡ true → state ≡ false → (root || (behind && used && (first || not state))) ≡ true
word_used true behind used first state b u s = refl
word_used false true true true state b u s = refl
word_used false true true false false b u s = refl
word_used false true true false true b u s = sym s
word_used false false used first state b u s = b
word_used false true false first state b u s = u

-- so is the value of a node of a used block
node_word : (is_root : ℕ → Bool) (world : World) (reference : ℕ) → world.used (block_at (node_place reference NODE_VALUE)) ≡ true → is_word is_root world (node_place reference NODE_VALUE) ≡ true
node_word is_root world reference used =
    let place = node_place reference 1 in
    let behind : nat_le 32 place ≡ true = grind (arith, nat_tests, node_place_behind reference 1) in
    let at = field_at-node_place reference 1 (omega arith) in
    let state : is_state (field_at place) ≡ false = grind (arith, nat_tests, at) in
    word_used (is_root place && is_root_place place) (nat_le 32 place) (world.used (block_at place)) (block_at place == 0) (is_state (field_at place)) behind used state

-- an observation is one after the same changes
right_after : (object : Object) (world after : World) (op : Op) (since : ℕ) (outcome : Outcome) → Grows world after
    → ((reply : Reply) → StandsFor world outcome reply → StandsFor after outcome reply) → RightSince object world op since outcome → RightSince object after op since outcome
right_after object world after op since outcome grows stands right =
    let more = grows.changes.0 in
    let long : length after.changes ≡ length (more ++ world.changes) = ap length grows.changes.1 in
    let same : first_changes right.count world.changes ≡ first_changes right.count after.changes =
    sym (ap (first_changes right.count) grows.changes.1 ∙ first_after right.count more world.changes (omega (arith, right.made))) in
    record {
      count = right.count;
      not_before = right.not_before;
      made = omega (arith, long, length-append more world.changes, right.made);
      observes = subst (λ (l : List Change). Observes object op (held_after object l)) same right.observes;
      told = subst (λ (l : List Change). StandsFor after outcome (object.apply op (held_after object l)).1) same (stands _ right.told);
    }

-- a change was made
changed_after : (world after : World) (list : Listed) (outcome : Outcome) → Grows world after
    → ((reply : Reply) → StandsFor world outcome reply → StandsFor after outcome reply) → ChangedBy world list outcome → ChangedBy after list outcome
changed_after world after list outcome grows stands by =
    let change : Change = record { list = list; reply = by.reply } in
    record {
      reply = by.reply;
      change = subst (λ (l : List Change). Among change l) (sym grows.changes.1) (among_after change grows.changes.0 world.changes by.change);
      told = stands by.reply by.told;
    }

module _ {S W : Type 0} (form : NormalForm S W) (laws : Laws form) (world after : World) (shape : form.shape world) (step : IsStep form world after) (grows : Grows world after) where
  -- what an outcome stands for stays: the value that it names is never exchanged
  stands_still : (outcome : Outcome) (told : Reply) → IsFixed form outcome → StandsFor world outcome told → StandsFor after outcome told
  stands_still (Plain reply') told fixed is = is
  stands_still (ValueOf reference) told fixed is =
      let place = node_place reference 1 in
      (grows.used (block_at place) is.0, ap reply.Value (word_stays form laws world place fixed after shape (node_word form.is_root world reference is.0) step) ∙ is.1)

  pub right_still : (op : Op) (since : ℕ) (outcome : Outcome) → IsFixed form outcome → RightSince form.object world op since outcome → RightSince form.object after op since outcome
  right_still op since outcome fixed = right_after form.object world after op since outcome grows (λ told. stands_still outcome told fixed)

  pub changed_still : (list : Listed) (outcome : Outcome) → IsFixed form outcome → ChangedBy world list outcome → ChangedBy after list outcome
  changed_still list outcome fixed = changed_after world after list outcome grows (λ told. stands_still outcome told fixed)
