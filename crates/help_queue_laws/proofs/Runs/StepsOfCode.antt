-- A step of a seat in the code is the step of the world.
use Rattle.std.proofs.Common.{◌≡◌, ◌∙◌, ◌<◌, ◌≤◌, refl, sym, subst, ap, ℕ, true, false, List, [], ◌∷◌, ◌++◌, zero-add, length, length-set, slice_get, slice_set, slice_index_or, map, Option, Some, None}
use Rattle.std.specs.Prelude.{nat_lt, ◌+◌}
use Rattle.std.specs.List.{range_with_len}
use Rattle.std.proofs.lemmas.Bool.{lt-ltb, le-ltb, cond-true, cond-false, cond_both}
use Rattle.std.proofs.lemmas.List.{set-get_or}
use Rattle.std.proofs.lemmas.List.FromFn.{map-range_with_len_more, length-map-range_with_len}
use Rattle.std.proofs.lemmas.Option.{slice_get-get_or}
use Rattle.step_memory.specs.declared.steps.Seen.{Seen}
use Rattle.step_memory.specs.declared.steps.Request.{Request}
use Rattle.step_memory.specs.Step.{words_after, seen_of}
use Rattle.help_queue_laws.specs.Callers.{Caller, caller_new, caller_request, caller_fed}
use Rattle.help_queue_laws.specs.Worlds.{QueueWorld, calls_on, has_call, stepped_by, stepped_of, world_stepped}

abbrev made_of : ℕ → List ℕ → List Caller → QueueWorld
made_of calls words callers = record { calls = calls; words = words; callers = callers }

module _ (calls : ℕ) (words : List ℕ) (callers : List Caller) (seat : ℕ) (caller : Caller) (view : QueueWorld)
    (is : made_of calls words callers ≡ view) (inside : seat < length view.callers) (at : caller ≡ slice_index_or callers seat caller) where
  there : slice_get callers seat ≡ Some caller
  there = slice_get-get_or callers seat caller (subst (λ (w : QueueWorld). seat < length w.callers) (sym is) inside) ∙ ap Some (sym at)

  same_step : world_stepped seat view ≡ stepped_of (Some caller) seat (made_of calls words callers)
  same_step = ap (world_stepped seat) (sym is) ∙ ap (λ o. stepped_of o seat (made_of calls words callers)) there

  same_answer : has_call seat view ≡ nat_lt caller.made calls
  same_answer = ap (has_call seat) (sym is) ∙ ap (λ o. calls_on o (made_of calls words callers)) there

  pub over_world : calls ≤ caller.made → made_of calls words (slice_set callers seat caller) ≡ world_stepped seat view
  over_world over =
      ap (λ c. made_of calls words (slice_set callers seat c)) at ∙ ap (made_of calls words) (set-get_or callers seat caller)
      ∙ sym (same_step ∙ cond-false (nat_lt caller.made calls) (stepped_by seat caller (made_of calls words callers)) (made_of calls words callers) (le-ltb caller.made calls over))

  pub over_answer : calls ≤ caller.made → false ≡ has_call seat view
  over_answer over = sym (same_answer ∙ le-ltb caller.made calls over)

  pub over_unchanged : calls ≤ caller.made → made_of calls words (slice_set callers seat caller) ≡ view
  over_unchanged over = ap (λ c. made_of calls words (slice_set callers seat c)) at ∙ ap (made_of calls words) (set-get_or callers seat caller) ∙ is

  pub next_world : (request : Request) (seen : Seen) (words' : List ℕ) (caller' : Caller) → caller.made < calls → request ≡ caller_request caller → words' ≡ words_after request words → seen ≡ seen_of request words
      → caller' ≡ caller_fed caller seen → made_of calls words' (slice_set callers seat caller') ≡ world_stepped seat view
  next_world request seen words' caller' more r w s f =
      let asked = caller_request caller in
      let wrote : words' ≡ words_after asked words = w ∙ ap (λ x. words_after x words) r in
      let became : caller' ≡ caller_fed caller (seen_of asked words) = f ∙ ap (caller_fed caller) (s ∙ ap (λ x. seen_of x words) r) in
      ap (λ x. made_of calls x (slice_set callers seat caller')) wrote
      ∙ ap (λ c. made_of calls (words_after asked words) (slice_set callers seat c)) became
      ∙ sym (same_step ∙ cond-true (nat_lt caller.made calls) (stepped_by seat caller (made_of calls words callers)) (made_of calls words callers) (lt-ltb caller.made calls more))

  pub next_answer : caller.made < calls → true ≡ has_call seat view
  next_answer more = sym (same_answer ∙ lt-ltb caller.made calls more)

-- one more seat that has made no call
pub one_more : (seats n : ℕ) (callers callers' : List Caller) (caller : Caller) → callers ≡ map (caller_new seats) (range_with_len 0 n) → caller ≡ caller_new seats n → callers' ≡ callers ++ caller ∷ []
    → callers' ≡ map (caller_new seats) (range_with_len 0 (n + 1))
one_more seats n callers callers' caller so_far is put =
    put ∙ ap (λ l. l ++ caller ∷ []) so_far ∙ ap (λ c. map (caller_new seats) (range_with_len 0 n) ++ c ∷ []) is ∙ sym (map-range_with_len_more (caller_new seats) 0 n n (zero-add n))

-- a step keeps the number of seats
pub same_seats : (seat : ℕ) (world : QueueWorld) → length (world_stepped seat world).callers ≡ length world.callers
same_seats seat world = kept (slice_get world.callers seat)
  where
    kept : (o : Option Caller) → length (stepped_of o seat world).callers ≡ length world.callers
    kept None = refl
    kept (Some caller) =
        cond_both (nat_lt caller.made world.calls) (stepped_by seat caller world) world (λ (w : QueueWorld). length w.callers ≡ length world.callers) (λ _. length-set world.callers seat (caller_fed caller (seen_of (caller_request caller) world.words))) (λ _. refl)

pub new_seats : (seats : ℕ) (callers : List Caller) → callers ≡ map (caller_new seats) (range_with_len 0 seats) → length callers ≡ seats
new_seats seats callers is = ap length is ∙ length-map-range_with_len (caller_new seats) 0 seats
