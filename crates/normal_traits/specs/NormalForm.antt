-- A structure in normalized form, as definitions: what its functions answer, and what their states mean.
use Rattle.std.specs.Prelude.{ℕ, Bool, List, Option}
use Rattle.lin_report.specs.declared.calls.Op.{Op}
use Rattle.lin_report.specs.Object.{Object}
use Rattle.lin_report.specs.Tellable.{IsTellable}
use Rattle.node_arena.specs.Opening.{IsOpening}
use Rattle.step_memory.specs.declared.steps.Request.{Request}
use Rattle.step_memory.specs.declared.steps.Seen.{Seen}
use Rattle.normal_traits.specs.declared.form.Found.{Found}
use Rattle.normal_traits.specs.declared.form.Wrapped.{Wrapped}
use Rattle.normal_traits.specs.declared.lists.Entry.{Entry}
use Rattle.normal_traits.specs.World.{World, Listed, Maker, Cause}

-- an offer: the entries of its list, and the stores before them, each a place and a word
pub record Offered : Type 0 where
  pub entries : List Entry
  pub stores : List (ℕ × ℕ)

-- S is the state of a search and W that of a wrap-up
pub record NormalForm (S W : Type 0) : Type 1 where
  -- the sequential object that it answers as, which says what it serves; a report can tell its calls
  pub object : Object
  pub tellable : IsTellable object
  -- its roots: words of its own at the places for them, beside the blocks
  pub is_root : ℕ → Bool
  -- the word at each place with which a run opens
  pub opening : ℕ → ℕ
  pub opens : IsOpening opening
  -- a call of the operation uses a block
  pub needs_block : Op → Bool
  -- what the functions answer and leave
  pub begin_of : Op → S
  pub request_of : S → Request
  pub found_of : S → Seen → Found
  pub feed_of : S → Seen → S
  pub offer_of : S → Op → ℕ → Offered
  pub begin_wrap_of : Op → List Entry → ℕ → W
  pub wrap_begun_of : Op → List Entry → ℕ → Wrapped
  pub wrap_request_of : W → Request
  pub wrap_found_of : W → Seen → Wrapped
  pub feed_wrap_of : W → Seen → W
  -- the search has a next step; it can name a list; the wrap-up has a next step
  pub asks : S → Type 0
  pub is_ready : S → Type 0
  pub wraps : W → Type 0
  -- a search that gave up had a reason: a word that it keeps had its modified bit set, its exchange was
  -- lost, or what it saw says that another call comes first
  pub keeps : S → Seen → ℕ → Type 0
  pub is_forced : S → Seen → Type 0
  -- the operation may name a list: it may change the object
  pub may_list : Op → Bool
  -- the place has a versioned word, which lists or the structure's own exchanges may change
  pub is_versioned : ℕ → Bool
  -- a list may have an entry at the place; its words are exchanged from words with a clear bit alone
  pub is_listable : ℕ → Bool
  -- the words stand for the changes
  pub shape : World → Type 0
  -- entry j of the list makes the change of its call
  pub adds : Listed → ℕ → Bool
  -- an exchange beside the lists, from a word at a place to another, makes the change of this list
  pub adds_beside : World → Entry → Option Listed
  -- why a maker makes an exchange
  pub cause_of : World → Maker → Entry → Cause
  -- what a search for an operation has learnt since there were so many changes
  pub knows : S → Op → World → ℕ → Type 0
  -- what the wrap-up of a list has learnt
  pub follows : W → Listed → ℕ → World → Type 0
  -- the list has made no change and never will
  pub dead : Listed → World → Type 0
