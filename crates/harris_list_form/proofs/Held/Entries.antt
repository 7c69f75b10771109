-- The entries of a list that a ready search has named.
use Rattle.std.proofs.Common.{◌≡◌, ℕ, true, false, eqb, List, ap, ◌∙◌, Some}
use Rattle.std.specs.Prelude.{slice_get}
use Rattle.std.proofs.lemmas.Bool.{cond-true, eq-eqb}
use Rattle.lin_report.specs.declared.calls.Op.{Op}
use Rattle.lin_report.specs.declared.calls.TheConstants.{ADD, DEL}
use Rattle.node_arena.specs.MemoryMap.{reference_to}
use Rattle.normal_traits.specs.declared.lists.Entry.{Entry}
use Rattle.normal_traits.specs.NormalForm.{Offered}
use Rattle.normal_traits.specs.World.{Listed, World}
use Rattle.normal_traits.specs.Steps.{IsOffered}
use Rattle.harris_list_form.specs.declared.states.Left.{Left}
use Rattle.harris_list_form.specs.declared.states.ListSearch.{ListSearch}
use Rattle.harris_list_form.specs.declared.states.ListSearch.TheVariants.{AddReady, DelReady}
use Rattle.harris_list_form.specs.Lists.{Lists}
use Rattle.harris_list_form.specs.Search.{is_add, led, leading, marking, next_place, IsReady, offered, add_offer}
use Rattle.harris_list_form.specs.Knowledge.{Learnt, Knows}
use Rattle.harris_list_form.specs.Form.{list_form}
use Rattle.client_lemmas.proofs.Entries.{same_entry, no_second}

-- the entry of an add, and the two of a del
abbrev pub add_entry : Left → ℕ → Entry
add_entry left block = record { target = left.place; from = left.word; to = leading left.word (reference_to block 1) }

abbrev pub mark_entry : ℕ → ℕ → Entry
mark_entry cur next = record { target = next_place cur; from = next; to = marking next }

abbrev pub cut_entry : Left → ℕ → Entry
cut_entry left next = record { target = left.place; from = left.word; to = leading left.word (led next) }

pub adds_is : (op : Op) → op.code ≡ ADD → is_add op ≡ true
adds_is op e = eq-eqb op.code ADD e

pub dels_is : (op : Op) → op.code ≡ DEL → is_add op ≡ false
dels_is op e = ap (λ code. eqb code ADD) e

module _ (lists : Lists) (world : World) (list : Listed) where
  -- a list whose first entry is tried, with the offer and with what its search has learnt
  pub data IsFirst (since : ℕ) (entry : Entry) (offer : Offered) : Type 0 where
    adds_it : (left : Left) (cur : ℕ) → list.call.op.code ≡ ADD → Learnt lists world list.call.op.key since (AddReady left cur) → add_entry left list.block ≡ entry
        → offer ≡ add_offer left cur list.call.op.key list.block → IsFirst since entry offer
    marks_it : (left : Left) (cur next : ℕ) → list.call.op.code ≡ DEL → Learnt lists world list.call.op.key since (DelReady left cur next) → mark_entry cur next ≡ entry → IsFirst since entry offer

  -- a list whose second entry is tried
  pub record IsSecond (since : ℕ) (entry : Entry) : Type 0 where
    pub left : Left
    pub cur : ℕ
    pub next : ℕ
    pub deletes : list.call.op.code ≡ DEL
    pub learnt : Learnt lists world list.call.op.key since (DelReady left cur next)
    pub first : slice_get list.entries 0 ≡ Some (mark_entry cur next)
    pub is : cut_entry left next ≡ entry

  pub tried_first : (searched : ListSearch) (since : ℕ) (entry : Entry) → IsOffered (list_form lists) world list searched since → slice_get list.entries 0 ≡ Some entry
      → IsFirst since entry (offered searched list.call.op list.block)
  tried_first searched since entry offer listed = by_search searched offer.ready offer.knows offer.entries
    where
      by_search : (searched : ListSearch) → IsReady searched → Knows lists searched list.call.op world since → list.entries ≡ (offered searched list.call.op list.block).entries
          → IsFirst since entry (offered searched list.call.op list.block)
      by_search (AddReady left cur) ready knows entries =
          let is : offered (AddReady left cur) list.call.op list.block ≡ add_offer left cur list.call.op.key list.block =
          ap (add_offer left cur list.call.op.key) (cond-true (is_add list.call.op) list.block 0 (adds_is list.call.op knows.serves)) in
          adds_it left cur knows.serves knows.learnt
          (same_entry list.entries 0 (add_entry left list.block) entry (ap (λ (es : List Entry). slice_get es 0) (entries ∙ ap (λ (o : Offered). o.entries) is)) listed) is
      by_search (DelReady left cur next) ready knows entries =
          marks_it left cur next knows.serves knows.learnt (same_entry list.entries 0 (mark_entry cur next) entry (ap (λ (es : List Entry). slice_get es 0) entries) listed)
      by_search _ ready knows entries = absurd ready

  pub tried_second : (searched : ListSearch) (since : ℕ) (entry : Entry) → IsOffered (list_form lists) world list searched since → slice_get list.entries 1 ≡ Some entry → IsSecond since entry
  tried_second searched since entry offer listed = by_search searched offer.ready offer.knows offer.entries
    where
      by_search : (searched : ListSearch) → IsReady searched → Knows lists searched list.call.op world since → list.entries ≡ (offered searched list.call.op list.block).entries → IsSecond since entry
      by_search (AddReady left cur) ready knows entries = absurd (no_second list.entries _ entry entries listed)
      by_search (DelReady left cur next) ready knows entries =
          record {
            left = left;
            cur = cur;
            next = next;
            deletes = knows.serves;
            learnt = knows.learnt;
            first = ap (λ (es : List Entry). slice_get es 0) entries;
            is = same_entry list.entries 1 (cut_entry left next) entry (ap (λ (es : List Entry). slice_get es 1) entries) listed;
          }
      by_search _ ready knows entries = absurd ready
