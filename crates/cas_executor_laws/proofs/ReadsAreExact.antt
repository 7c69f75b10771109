-- A read, word by word, is of what its block holds.
use Rattle.std.proofs.Common.{◌≡◌, ◌∙◌, refl, sym, ap, ℕ, suc, ◌+◌, ◌%◌, ◌^◌, if◌then◌else◌, List, [], ◌∷◌, ◌++◌, length, length-append, Some, None, inl, inr, add-one, arith}
use Rattle.std.proofs.lemmas.Bool.{cases_eq, eq-eqb, ne_eqb}
use Rattle.arrayvec.specs.ArrayVec.{ArrayVec}
use Rattle.normal_traits.specs.declared.lists.Entry.{Entry}
use Rattle.cas_executor.specs.declared.block_read.ReadStep.{ReadStep}
use Rattle.cas_executor.specs.declared.block_read.ReadStep.TheVariants.{Op, Value, Length, Target, From, To}
use Rattle.cas_executor.specs.BlockReads.{ReadWalk, IsInOrder, count_of, given_at, read_at, read_field, with_entry}
use Rattle.node_arena.specs.MemoryMap.{block_place}
use Rattle.cas_executor_laws.specs.Reads.{HasRead, IsReadOf, ReadTo, ReadsAreExact, ReadsBegin, ReadsGoOn, stored_count, stored_entries, stored_entry, stored_in}

pub reads_begin : ReadsBegin
reads_begin words block = tt

-- a list without elements is empty
empty : (entries : List Entry) → length entries ≡ 0 → entries ≡ []
empty [] e = refl
empty (entry ∷ entries) e = absurd (omega (arith, e))

none_read : (words : ℕ → ℕ) (walk : ReadWalk) → length walk.entries ≡ 0 → walk.entries ≡ stored_entries words walk.block (length walk.entries)
none_read words walk none = empty walk.entries none ∙ sym (ap (stored_entries words walk.block) none)

same_entry : (words : ℕ → ℕ) (walk : ReadWalk) (to : ℕ) → walk.target ≡ (stored_entry words walk.block (length walk.entries)).target → walk.from ≡ (stored_entry words walk.block (length walk.entries)).from
    → to ≡ (stored_entry words walk.block (length walk.entries)).to → (let entry : Entry = record { target = walk.target; from = walk.from; to = to } in entry) ≡ stored_entry words walk.block (length walk.entries)
same_entry words walk to t f o = λ i. record { target = t i; from = f i; to = o i }

-- the entries with one more
more_read : (words : ℕ → ℕ) (walk : ReadWalk) (to : ℕ) → HasRead words walk → walk.target ≡ (stored_entry words walk.block (length walk.entries)).target → walk.from ≡ (stored_entry words walk.block (length walk.entries)).from
    → to ≡ (stored_entry words walk.block (length walk.entries)).to → with_entry walk to ≡ stored_entries words walk.block (suc (length walk.entries))
more_read words walk to has t f o =
    ap (λ es. es ++ ((let entry : Entry = record { target = walk.target; from = walk.from; to = to } in entry) ∷ [])) has.entries
    ∙ ap (λ e. stored_entries words walk.block (length walk.entries) ++ (e ∷ [])) (same_entry words walk to t f o)

one_more : (entries : List Entry) (entry : Entry) → length (entries ++ (entry ∷ [])) ≡ suc (length entries)
one_more entries entry = length-append entries (entry ∷ []) ∙ add-one (length entries)

goes_on : (step : ReadStep) (words : ℕ → ℕ) (walk : ReadWalk) (word : ℕ) → IsInOrder step (length walk.entries) → ReadTo step words walk → word ≡ words (block_place walk.block (read_field step (length walk.entries)))
    → given_at step walk word ≡ None → IsReadOf words (read_at step walk word)
goes_on Op words walk word order so is none = is
goes_on Value words walk word order so is none = (so, is)
goes_on Length words walk word order so is none = record { op = so.0; value = so.1; count = ap count_of is; entries = none_read words walk order }
goes_on Target words walk word order so is none = (record { op = so.op; value = so.value; count = so.count; entries = so.entries }, ap (λ w. w % 2 ^ 32) is)
goes_on From words walk word order so is none = (record { op = so.0.op; value = so.0.value; count = so.0.count; entries = so.0.entries }, so.1, is)
goes_on To words walk word order so is none =
    record {
      op = so.0.op;
      value = so.0.value;
      count = so.0.count;
      entries = more_read words walk word so.0 so.1 so.2 is ∙ sym (ap (stored_entries words walk.block) (one_more walk.entries (record { target = walk.target; from = walk.from; to = word })));
    }

pub reads_go_on : ReadsGoOn
reads_go_on words walk seen reading so is none = goes_on walk.step words walk seen.before reading.in_order so is none

-- what is given at the last word
given_is : (words : ℕ → ℕ) (walk : ReadWalk) (word : ℕ) → HasRead words walk → with_entry walk word ≡ stored_entries words walk.block (suc (length walk.entries)) → length walk.entries + 1 ≡ walk.count
    → (let given : ℕ × ℕ × ArrayVec Entry = (walk.op, walk.value, record { items = with_entry walk word }) in given) ≡ stored_in words walk.block
given_is words walk word has entries last =
    let items : with_entry walk word ≡ stored_entries words walk.block (stored_count words walk.block) = entries ∙ ap (stored_entries words walk.block) (sym (add-one (length walk.entries)) ∙ last ∙ has.count) in
    λ i. (has.op i, has.value i, record { items = items i })

exact : (step : ReadStep) (words : ℕ → ℕ) (walk : ReadWalk) (word : ℕ) (given : ℕ × ℕ × ArrayVec Entry) → ReadTo step words walk → word ≡ words (block_place walk.block (read_field step (length walk.entries)))
    → given_at step walk word ≡ Some given → given ≡ stored_in words walk.block
exact Op words walk word given so is some = absurd cc
exact Value words walk word given so is some = absurd cc
exact Length words walk word given so is some = absurd cc
exact Target words walk word given so is some = absurd cc
exact From words walk word given so is some = absurd cc
exact To words walk word given so is some =
    elim (cases_eq (length walk.entries + 1) walk.count) [
      | inl last ↦ same_given _ given (sym (ap (λ b. if b then Some (let g : ℕ × ℕ × ArrayVec Entry = (walk.op, walk.value, record { items = with_entry walk word }) in g) else None) (eq-eqb (length walk.entries + 1) walk.count last)) ∙ some)
          ∙ given_is words walk word so.0 (more_read words walk word so.0 so.1 so.2 is) last
      | inr more ↦ absurd (let both : None ≡ Some given = sym (ap (λ b. if b then Some (let g : ℕ × ℕ × ArrayVec Entry = (walk.op, walk.value, record { items = with_entry walk word }) in g) else None) (ne_eqb (length walk.entries + 1) walk.count more)) ∙ some in cc)
    ]
  where
    same_given : (x y : ℕ × ℕ × ArrayVec Entry) → Some x ≡ Some y → y ≡ x
    same_given x y e = cc

pub reads_are_exact : ReadsAreExact
reads_are_exact words walk seen given reading so is some = exact walk.step words walk seen.before given so is some
