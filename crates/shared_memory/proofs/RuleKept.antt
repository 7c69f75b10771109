-- The rule is kept by a step of a seat's machine: the run is the old one with this seat's move put in front. One
-- proof for all kinds of step, since what a request sees and leaves is a function of it.
use Rattle.std.proofs.Common.{arith, ◌≡◌, ◌∙◌, refl, sym, subst, ap, ⊎_elim, ℕ, ◌<◌, ◌≤◌, true, List, [], ◌∷◌, length, slice_index, slice_set, Option}
use mathlib.Core.Option.{some}
use lib.ListN.{get_elem?}
use Rattle.atomic_table.specs.Table.{State, keeps, Allows}
use Rattle.atomic_table.proofs.Lists.{at_set}
use Rattle.lin_report.specs.declared.calls.Op.{Op}
use Rattle.step_memory.specs.declared.steps.Request.{Request}
use Rattle.step_memory.specs.declared.steps.Request.TheVariants.{Store}
use Rattle.step_memory.specs.declared.steps.Seen.{Seen}
use Rattle.step_memory.specs.Step.{requested_place, seen_at, seen_of, word_after, words_after}
use Rattle.node_arena.specs.Opening.{opening_words}
use Rattle.normal_traits.specs.NormalForm.{NormalForm}
use Rattle.fast_slow_engine.specs.declared.setup.Setup.{Setup}
use Rattle.fast_slow_engine.specs.PhaseTable.{mech_new, mech_request}
use Rattle.fast_slow_engine.specs.Runs.{CanMove, Move, RunState, begun, run_of, run_step, stepped_by}
use Rattle.run_laws.proofs.Steps.{move_steps}
use Rattle.shared_memory.specs.declared.view.View.{View}
use Rattle.shared_memory.specs.Views.{Advances, Misses, moved, nothing_seen}
use Rattle.shared_memory.specs.Rule.{Fits, HasSeat, Kept}
use Rattle.shared_memory.proofs.RunWords.{seen_past, seen_within, words_at, words_past, words_stay}
use Rattle.shared_memory.proofs.SeatSteps.{begun_seat, other_has, stays, steps}

-- a word that is set to itself
first_set : (ws : List ℕ) → slice_set ws 0 (slice_index ws 0) ≡ ws
first_set [] = refl
first_set (w ∷ ws) = refl

module _ {C S W : Type 0} (form : NormalForm S W) where
  -- the move of the seat of a view, put in front; it saw this, and left these words
  module _ (setup : Setup) where
    keeps_rule : (s : State (Unit {0}) (View C S W)) (id : ℕ) (v : View C S W) (begins : Option Op) (seen : Seen) (ws : List ℕ) (homes : List _) → Kept form setup s → get_elem? s.views id ≡ some v → v.live ≡ true
        → CanMove form begins v.machine → seen_of (mech_request form (begun begins v.machine)) s.words ≡ seen → words_after (mech_request form (begun begins v.machine)) s.words ≡ ws
        → Kept form setup (record { words = ws; homes = homes; views = slice_set s.views id (moved form v begins seen) })
    keeps_rule s id v begins seen ws homes k at live can sees leaves =
        let state = run_of form setup k.moves in
        let f = k.fits id v at live in
        let mech = begun begins v.machine in
        let move : Move = record { seat = v.machine.seat; begins = begins } in
        let to = stepped_by form v.machine.seat mech state in
        let e : run_step form state move ≡ to = move_steps form state move v.machine f.has.machine in
        let saw : seen_of (mech_request form mech) state.words ≡ seen = ap (seen_of (mech_request form mech)) k.words ∙ sees in
        record {
          moves = move ∷ k.moves;
          are = (k.are, record { mech = v.machine; seated = f.has.machine; can = can });
          words = ap (λ (x : RunState S W). x.words) e ∙ ap (words_after (mech_request form mech)) k.words ∙ leaves;
          made = k.made;
          rooted = k.rooted;
          owner = k.owner;
          fits = λ j v' at' live'. subst (λ (x : RunState S W). Fits setup x k.owner k.made k.rooted j v') (sym e)
              (⊎_elim
              (λ t. subst (λ (i : ℕ). Fits setup to k.owner k.made k.rooted i v') (sym t.0)
              (subst (λ (u : View C S W). Fits setup to k.owner k.made k.rooted id u) t.1
              (subst (λ (n : Seen). Fits setup to k.owner k.made k.rooted id (moved form v begins n)) saw (steps form setup state k.owner k.made k.rooted id v begins f))))
              (λ t. stays form setup state k.owner k.made k.rooted j v' v.machine.seat mech (λ o. t.0 (sym o ∙ f.mine)) (begun_seat begins v.machine) (k.fits j v' t.1 live'))
              (at_set s.views id j (moved form v begins seen) v' at'));
          fresh_above = λ i above below. subst (λ (x : RunState S W). HasSeat x i (mech_new i setup) []) (sym e)
              (other_has form state v.machine.seat i mech (mech_new i setup) [] (λ is. let low = f.low in omega (arith, is)) (begun_seat begins v.machine) (k.fresh_above i above below));
        }

    -- the words are as many as the run opened with
    words_many : (s : State (Unit {0}) (View C S W)) → Kept form setup s → length s.words ≡ length (opening_words form.opening setup.cap)
    words_many s k = ap length (sym k.words) ∙ words_stay form setup k.moves k.are

    can_of : (v u : View C S W) (begins : Option Op) → v ≡ u → CanMove form begins u.machine → CanMove form begins v.machine
    can_of v u begins same can = subst (λ (x : View C S W). CanMove form begins x.machine) (sym same) can

    is_of : (v u : View C S W) (begins : Option Op) (request : Request) → v ≡ u → mech_request form (begun begins u.machine) ≡ request → mech_request form (begun begins v.machine) ≡ request
    is_of v u begins request same is = ap (λ (x : View C S W). mech_request form (begun begins x.machine)) same ∙ is

    -- the table's own form of it, of a step on a word
    allowed : (slots id count : ℕ) (v : View C S W) (begins : Option Op) (request : Request) (cs : List _) → v.live ≡ true → CanMove form begins v.machine → mech_request form (begun begins v.machine) ≡ request
        → count ≡ length (opening_words form.opening setup.cap) → requested_place request < count
        → Allows (Kept form setup) slots id (v, cs) (requested_place request) (word_after request) (λ n after. Advances form begins (v, cs) n after)
    allowed slots id count v begins request cs live can is many inside s k homes at below =
        let word = slice_index s.words (requested_place request) in
        let within : requested_place request < length s.words = let w = words_many s k in omega (arith, w, many, inside) in
        let sees : seen_of (mech_request form (begun begins v.machine)) s.words ≡ seen_at (mech_request form (begun begins v.machine)) word =
        subst (λ r. seen_of r s.words ≡ seen_at r word) (sym is) (seen_within request s.words within) in
        let leaves : words_after (mech_request form (begun begins v.machine)) s.words ≡ slice_set s.words (requested_place request) (word_after request word) = ap (λ r. words_after r s.words) is ∙ words_at request s.words in
        (moved form v begins (seen_at (mech_request form (begun begins v.machine)) word), keeps, tt, keeps_rule s id v begins _ _ _ k at live can sees leaves, refl)

    -- the same of a port that is seen with the view u, where the place is known to be that of the request
    pub allows : (slots id count place : ℕ) (v u : View C S W) (begins : Option Op) (request : Request) (cs : List _) → v ≡ u → place ≡ requested_place request → v.live ≡ true → CanMove form begins u.machine
        → mech_request form (begun begins u.machine) ≡ request → count ≡ length (opening_words form.opening setup.cap) → place < count
        → Allows (Kept form setup) slots id (v, cs) place (word_after request) (λ n after. Advances form begins (v, cs) n after)
    allows slots id count place v u begins request cs same there live can is many inside =
        subst (λ (i : ℕ). Allows (Kept form setup) slots id (v, cs) i (word_after request) (λ n after. Advances form begins (v, cs) n after)) (sym there)
        (allowed slots id count v begins request cs live (can_of v u begins same can) (is_of v u begins request same is) many (subst (λ (i : ℕ). i < count) there inside))

    -- a store tells nothing of the word that it found
    pub stores : (slots id count place at value : ℕ) (v u : View C S W) (begins : Option Op) (cs : List _) → v ≡ u → place ≡ at → v.live ≡ true → CanMove form begins u.machine
        → mech_request form (begun begins u.machine) ≡ Store at value → count ≡ length (opening_words form.opening setup.cap) → place < count
        → Allows (Kept form setup) slots id (v, cs) place (λ n. value) (λ n after. Advances form begins (v, cs) value after)
    stores slots id count place at value v u begins cs same there live can is many inside s k homes found below =
        let r = allows slots id count place v u begins (Store at value) cs same there live can is many inside s k homes found below in
        let word = slice_index s.words place in
        let told : seen_at (mech_request form (begun begins v.machine)) word ≡ seen_at (mech_request form (begun begins v.machine)) value =
        subst (λ q. seen_at q word ≡ seen_at q value) (sym (is_of v u begins (Store at value) same is)) refl in
        (r.0, r.1, r.2, r.3, r.4 ∙ ap (λ x. (moved form v begins x, cs)) told)

    -- a step whose request names no word loads the first one
    pub misses : (slots id count : ℕ) (v u : View C S W) (begins : Option Op) (request : Request) (cs : List _) → v ≡ u → v.live ≡ true → CanMove form begins u.machine
        → mech_request form (begun begins u.machine) ≡ request → count ≡ length (opening_words form.opening setup.cap) → count ≤ requested_place request
        → Allows (Kept form setup) slots id (v, cs) 0 (λ n. n) (λ n after. Misses form begins (v, cs) after)
    misses slots id count v u begins request cs same live can is many past s k homes at below =
        let asks = is_of v u begins request same is in
        let beyond : length s.words ≤ requested_place request = let w = words_many s k in omega (arith, w, many, past) in
        let sees : seen_of (mech_request form (begun begins v.machine)) s.words ≡ nothing_seen = ap (λ r. seen_of r s.words) asks ∙ seen_past request s.words beyond in
        let leaves : words_after (mech_request form (begun begins v.machine)) s.words ≡ slice_set s.words 0 (slice_index s.words 0) =
        ap (λ r. words_after r s.words) asks ∙ words_past request s.words beyond ∙ sym (first_set s.words) in
        (moved form v begins nothing_seen, keeps, tt, keeps_rule s id v begins _ _ _ k at live (can_of v u begins same can) sees leaves, refl)
