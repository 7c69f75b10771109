-- What one change more does to the nodes and to what is held: nothing to the nodes that there are.
use Rattle.std.proofs.Common.{◌≡◌, ◌≢◌, ℕ, ◌+◌, ◌<◌, ◌≤◌, Bool, true, false, eqb, ◌||◌, ◌&&◌, List, ◌∷◌, length, refl, sym, ap, ◌∙◌, inl, inr, ◌⊎◌, arith}
use Rattle.std.proofs.lemmas.Bool.{true≢false, eqb-true, eq-eqb, ne_eqb, cond-true, cond-false, or_right, or_cases, and_from, and_left}
use Rattle.normal_traits.specs.World.{Change, Among, first_changes}
use Rattle.harris_list_form.specs.Lists.{Lists, AreLists}
use Rattle.harris_list_form.specs.Search.{is_add}
use Rattle.harris_list_form.specs.Nodes.{holds, brings, is_node, node_key, node_rank, place_rank, rank_of, IsOf, IsLink, IsNamed}
use Rattle.harris_list_form.proofs.Held.Places.{rank_start, rank_next, rank_named}
use Rattle.client_lemmas.proofs.Growing.{first_older}

-- the second has the changes of the first and maybe newer ones
pub record Extends (old new : List Change) : Type 0 where
  pub nodes : (block : ℕ) → is_node old block ≡ true → is_node new block ≡ true
  pub keys : (block : ℕ) → is_node old block ≡ true → node_key new block ≡ node_key old block
  pub longer : length old ≤ length new
  pub first : (count : ℕ) → count ≤ length old → first_changes count new ≡ first_changes count old
  pub among : (change : Change) → Among change old → Among change new

pub extends_same : (changes : List Change) → Extends changes changes
extends_same changes = record { nodes = λ block is. is; keys = λ block is. refl; longer = omega arith; first = λ count low. refl; among = λ change a. a }

-- a node that is brought in is no node yet
pub extends_more : (change : Change) (changes : List Change) → ((block : ℕ) → is_node changes block ≡ true → brings change block ≡ false) → Extends changes (change ∷ changes)
extends_more change changes new =
    record {
      nodes = λ block is. or_right (brings change block) (is_node changes block) is;
      keys = λ block is. cond-false (brings change block) change.list.call.op.key (node_key changes block) (new block is);
      longer = omega arith;
      first = λ count low. first_older change changes count low;
      among = λ other a. inr a;
    }

-- ---- the nodes of the longer changes

module _ (lists : Lists) (old new : List Change) (extends : Extends old new) where
  pub same_rank : (block : ℕ) → is_node old block ≡ true → node_rank new block ≡ node_rank old block
  same_rank block is = ap (λ key. key + 1) (extends.keys block is)

  pub of_grows : (start block : ℕ) → IsOf lists old start block → IsOf lists new start block
  of_grows start block of = record { node = extends.nodes block of.node; list = ap lists.start_of (extends.keys block of.node) ∙ of.list }

  pub link_grows : (start place : ℕ) → IsLink lists old start place → IsLink lists new start place
  link_grows start place (inl at) = inl at
  link_grows start place (inr link) = inr (link.0, of_grows start link.0 link.1, link.2)

  pub named_grows : (start reference : ℕ) → IsNamed lists old start reference → IsNamed lists new start reference
  named_grows start reference (inl null) = inl null
  named_grows start reference (inr named) = inr (named.0, of_grows start named.0 named.1, named.2)

  pub rank_kept : (start reference : ℕ) → IsNamed lists old start reference → rank_of new reference ≡ rank_of old reference
  rank_kept start reference (inl null) = ap (rank_of new) null ∙ sym (ap (rank_of old) null)
  rank_kept start reference (inr named) =
      ap (rank_of new) named.2 ∙ rank_named new named.0 ∙ same_rank named.0 named.1.node ∙ sym (rank_named old named.0) ∙ sym (ap (rank_of old) named.2)

  pub place_kept : AreLists lists → ((block : ℕ) → is_node old block ≡ true → 0 < block) → (start place : ℕ) → IsLink lists old start place → place_rank new place ≡ place_rank old place
  place_kept are some start place (inl at) =
      let low = are.within start at.0 in
      ap (place_rank new) at.1 ∙ rank_start new start low ∙ sym (ap (place_rank old) at.1 ∙ rank_start old start low)
  place_kept are some start place (inr link) =
      let positive = some link.0 link.1.node in
      ap (place_rank new) link.2 ∙ rank_next new link.0 positive ∙ same_rank link.0 link.1.node ∙ sym (ap (place_rank old) link.2 ∙ rank_next old link.0 positive)

-- ---- an add, and a del

module _ (change : Change) (changes : List Change) where
  pub brings_none : is_add change.list.call.op ≡ false → (block : ℕ) → brings change block ≡ false
  brings_none del block = and_left (is_add change.list.call.op) (eqb change.list.block block) del

  pub brings_own : is_add change.list.call.op ≡ true → brings change change.list.block ≡ true
  brings_own add = and_from (is_add change.list.call.op) (eqb change.list.block change.list.block) add (eq-eqb change.list.block change.list.block refl)

  pub brings_it : (block : ℕ) → brings change block ≡ true → change.list.block ≡ block
  brings_it block e = eqb-true change.list.block block (second (is_add change.list.call.op) (eqb change.list.block block) e)
    where
      second : (a b : Bool) → (a && b) ≡ true → b ≡ true
      second true b e = e
      second false b e = absurd (true≢false (sym e))

  pub node_cases : (block : ℕ) → is_node (change ∷ changes) block ≡ true → (change.list.block ≡ block) ⊎ (is_node changes block ≡ true)
  node_cases block is = by_case (or_cases (brings change block) (is_node changes block) is)
    where
      by_case : (brings change block ≡ true) ⊎ (is_node changes block ≡ true) → (change.list.block ≡ block) ⊎ (is_node changes block ≡ true)
      by_case (inl own) = inl (brings_it block own)
      by_case (inr old) = inr old

  -- a del brings in no node
  pub node_del : is_add change.list.call.op ≡ false → (block : ℕ) → is_node (change ∷ changes) block ≡ is_node changes block
  node_del del block = ap (λ b. b || is_node changes block) (brings_none del block)

  pub key_del : is_add change.list.call.op ≡ false → (block : ℕ) → node_key (change ∷ changes) block ≡ node_key changes block
  key_del del block = cond-false (brings change block) change.list.call.op.key (node_key changes block) (brings_none del block)

  pub key_own : is_add change.list.call.op ≡ true → node_key (change ∷ changes) change.list.block ≡ change.list.call.op.key
  key_own add = cond-true (brings change change.list.block) change.list.call.op.key (node_key changes change.list.block) (brings_own add)

  pub node_own : is_add change.list.call.op ≡ true → is_node (change ∷ changes) change.list.block ≡ true
  node_own add = ap (λ b. b || is_node changes change.list.block) (brings_own add)

  -- what is held at the key of the change, and at another
  pub holds_own : (key : ℕ) → change.list.call.op.key ≡ key → holds (change ∷ changes) key ≡ is_add change.list.call.op
  holds_own key e = cond-true (eqb change.list.call.op.key key) (is_add change.list.call.op) (holds changes key) (eq-eqb change.list.call.op.key key e)

  pub holds_other : (key : ℕ) → change.list.call.op.key ≢ key → holds (change ∷ changes) key ≡ holds changes key
  holds_other key e = cond-false (eqb change.list.call.op.key key) (is_add change.list.call.op) (holds changes key) (ne_eqb change.list.call.op.key key e)
