-- A helper that searches for the call in the record: how it begins, and what each step of the search has learnt.
use Rattle.std.proofs.Common.{◌≡◌, ◌∙◌, sym, ap, subst, ℕ, ◌<◌, ◌≤◌, ◌^◌, length, Option, arith}
use Rattle.lin_report.specs.declared.calls.Op.{Op}
use Rattle.lin_report.specs.declared.calls.Outcome.{Outcome}
use Rattle.lin_report.specs.Object.{IsCommandOf}
use Rattle.step_memory.specs.declared.steps.Seen.{Seen}
use Rattle.word_fields.specs.Announced.{op_word, op_number, value_number}
use Rattle.word_fields.specs.Records.{record_number}
use Rattle.word_fields.proofs.AnnouncedWords.{code-op_word, key-op_word, value-value_word}
use Rattle.node_arena.specs.MemoryMap.{op_place, value_place}
use Rattle.normal_traits.specs.declared.form.Found.{Found}
use Rattle.normal_traits.specs.World.{World}
use Rattle.normal_traits.specs.NormalForm.{NormalForm}
use Rattle.normal_traits.specs.Steps.{Requested}
use Rattle.normal_traits.specs.Laws.{FoundWell, Laws}
use Rattle.fast_slow_engine.specs.HelpWords.{announced_op}
use Rattle.fast_slow_engine.proofs.Commands.{code_fits, key_fits}
use Rattle.offered_blocks.specs.Blocks.{Offer}
use Rattle.helper_knowledge.specs.Callers.{Caller, HasAnnounced, IfStill}
use Rattle.helper_knowledge.specs.Knowing.{KnowsAnswer, KnowsSearch}
use Rattle.normal_traits.specs.declared.form.Found.TheVariants as found

module _ {S W : Type 0} (form : NormalForm S W) (laws : Laws form) (world : World) (shape : form.shape world) (offers : ℕ → Option (Offer S)) (caller : Caller) (head word : ℕ) where
  -- an op word that was loaded, with the number of the record
  pub reads_op : HasAnnounced world head caller → op_number (world.words (op_place head)) ≡ record_number word
      → IfStill caller (record_number word) (world.words (op_place head) ≡ op_word caller.op.code caller.number caller.op.key)
  reads_op has number makes = has.op (number ∙ sym makes)

  op_same : (a b : Op) → a.code ≡ b.code → a.key ≡ b.key → a.value ≡ b.value → a ≡ b
  op_same a b c k v = λ i. record { code = c i; key = k i; value = v i }

  -- with the value word too it is the operation of the call
  pub reads_call : (op : ℕ) → IsCommandOf form.object caller.op → caller.number < 2 ^ 16 → HasAnnounced world head caller → value_number (world.words (value_place head)) ≡ record_number word
      → IfStill caller (record_number word) (op ≡ op_word caller.op.code caller.number caller.op.key)
      → IfStill caller (record_number word) (announced_op op (world.words (value_place head)) ≡ caller.op)
  reads_call op command few has number op_is makes =
      let code = code_fits form.object form.tellable caller.op command.command in
      let key = key_fits form.object form.tellable caller.op command.command in
      let value = has.value (number ∙ sym makes) in
      op_same (announced_op op (world.words (value_place head))) caller.op
      (ap (λ w. (announced_op w 0).code) (op_is makes) ∙ code-op_word caller.op.code caller.number caller.op.key code)
      (ap (λ w. (announced_op w 0).key) (op_is makes) ∙ key-op_word caller.op.code caller.number caller.op.key code few key)
      (ap (λ w. (announced_op 0 w).value) value ∙ value-value_word caller.number caller.op.value few (let small = command.value in omega (arith, small)))

  -- a search begins after the call did
  pub begins_search : (op : Op) → IsCommandOf form.object op → IfStill caller (record_number word) (op ≡ caller.op) → caller.begun ≤ length world.changes
      → KnowsSearch form world caller word op (form.begin_of op) (length world.changes) × form.asks (form.begin_of op)
  begins_search op command op_is early =
      (record { command = command; knows = laws.of_world.begins_knowing world op command shape; op_is = op_is; early = λ makes. early }, laws.of_world.begins_asking op command)

  -- ---- a step of the search

  module _ (after : World) (seen : Seen) (op : Op) (s : S) (since : ℕ) (asks : form.asks s) (knows : KnowsSearch form world caller word op s since) (made : Requested form (form.request_of s) world after seen) where
    abbrev pub fed : S
    fed = form.feed_of s seen

    both : form.knows fed op after since × FoundWell form after op since fed (form.found_of s seen)
    both = laws.search_fed world after seen s op since knows.command shape asks knows.knows made

    pub search_goes : KnowsSearch form after caller word op fed since
    search_goes = record { command = knows.command; knows = both.0; op_is = knows.op_is; early = knows.early }

    well : (what : Found) → form.found_of s seen ≡ what → FoundWell form after op since fed what
    well what is = subst (FoundWell form after op since fed) is both.1

    pub asks_on : form.found_of s seen ≡ found.Going → form.asks fed
    asks_on is = well found.Going is

    pub ready_now : form.found_of s seen ≡ found.Ready → form.is_ready fed
    ready_now is = well found.Ready is

    pub answer_known : (outcome : Outcome) → form.found_of s seen ≡ found.Answer outcome → KnowsAnswer form after caller word since op outcome
    answer_known outcome is = (let right = well (found.Answer outcome) is in record { right = right.0; fixed = right.1; op_is = knows.op_is; early = knows.early })
