-- The search in a sorted list: what its steps ask for, what they find, and the list that it names.
use Rattle.std.specs.Prelude.{ℕ, ◌+◌, ◌*◌, ◌/◌, ◌%◌, ◌^◌, ◌<◌, ◌==◌, nat_le, ◌||◌, if◌then◌else◌, Bool, true, false, [], ◌∷◌}
use Rattle.lin_report.specs.declared.calls.Op.{Op}
use Rattle.lin_report.specs.declared.calls.Reply.TheVariants.{Yes, No}
use Rattle.lin_report.specs.declared.calls.Outcome.TheVariants.{Plain}
use Rattle.lin_report.specs.declared.calls.TheConstants.{ADD, DEL, MIN}
use Rattle.step_memory.specs.declared.steps.Request.{Request}
use Rattle.step_memory.specs.declared.steps.Request.TheVariants.{Load, Exchange}
use Rattle.step_memory.specs.declared.steps.Seen.{Seen}
use Rattle.word_fields.specs.Versioned.{versioned_value, is_modified, changed_word}
use Rattle.node_arena.specs.declared.places.TheConstants.{NODE_KEY, NODE_NEXT}
use Rattle.node_arena.specs.MemoryMap.{node_place, reference_to}
use Rattle.normal_traits.specs.declared.form.Found.{Found}
use Rattle.normal_traits.specs.declared.form.Found.TheVariants.{Going, Ready, Answer, Contended}
use Rattle.normal_traits.specs.NormalForm.{Offered}
use Rattle.harris_list_form.specs.declared.states.Aim.{Aim}
use Rattle.harris_list_form.specs.declared.states.Aim.TheVariants.{Add, Del, Has}
use Rattle.harris_list_form.specs.declared.states.Sought.{Sought}
use Rattle.harris_list_form.specs.declared.states.Left.{Left}
use Rattle.harris_list_form.specs.declared.states.ListSearch.{ListSearch}
use Rattle.harris_list_form.specs.declared.states.ListSearch.TheVariants.{Start, Next, Key, Unlink, AddReady, DelReady, LeastStart, LeastNext, LeastUnlink, LeastKey}
use Rattle.harris_list_form.specs.Lists.{Lists}
use Rattle.harris_list_form.specs.Least.{least_reached, least_met, least_moved, least_told}

-- ---- words

-- whether an operation adds; only that needs a block
abbrev pub is_add : Op → Bool
is_add op = op.code == ADD

-- whether an operation may change the set
abbrev pub may_list : Op → Bool
may_list op = op.code == ADD || op.code == DEL

-- the reference that a next word leads to: its value is twice that, and one more at a marked node
abbrev pub led : ℕ → ℕ
led word = versioned_value word / 2

-- whether the node that has this next word is marked
abbrev pub is_marked : ℕ → Bool
is_marked word = versioned_value word % 2 == 1

-- the places of the next word and of the key of the node that a reference names
abbrev pub next_place : ℕ → ℕ
next_place reference = node_place reference NODE_NEXT

abbrev pub key_place : ℕ → ℕ
key_place reference = node_place reference NODE_KEY

-- the next word that leads to a node, after another at its place
abbrev pub leading : ℕ → ℕ → ℕ
leading word reference = changed_word word (2 * reference)

-- the next word of the same node, marked
abbrev pub marking : ℕ → ℕ
marking word = changed_word word (2 * led word + 1)

-- ---- states

-- what the search of an operation is for
abbrev pub aim_of : Op → Aim
aim_of op = if op.code == ADD then Add else (if op.code == DEL then Del else Has)

abbrev pub sought_of : Op → Sought
sought_of op = record { aim = aim_of op; key = op.key }

-- a search that begins at the place where a list begins: of a key, or of the least one
abbrev pub begun_at : ℕ → Op → ListSearch
begun_at start op = if op.code == MIN then LeastStart start else Start (sought_of op) start

abbrev pub begun : Lists → Op → ListSearch
begun lists op = begun_at (lists.start_of op.key) op

-- what a search asks for; one that is ready asks for nothing more
abbrev pub asked : ListSearch → Request
asked (Start sought start) = Load start
asked (Next sought left run cur) = Load (next_place cur)
asked (Key sought left run cur next) = Load (key_place cur)
asked (Unlink sought left cur next found) = Exchange left.place left.word (leading left.word cur)
asked (AddReady left cur) = Load left.place
asked (DelReady left cur next) = Load left.place
asked (LeastStart start) = Load start
asked (LeastNext left run cur) = Load (next_place cur)
asked (LeastUnlink left cur) = Exchange left.place left.word (leading left.word cur)
asked (LeastKey cur) = Load (key_place cur)

-- the key is absent: the left word leads to a node of a higher key or to the end
abbrev pub decided_absent : ListSearch → Aim → Left → ℕ → ListSearch × Found
decided_absent stay Add left cur = if is_modified left.word then (stay, Contended) else (AddReady left cur, Ready)
decided_absent stay Del left cur = (stay, Answer (Plain No))
decided_absent stay Has left cur = (stay, Answer (Plain No))

-- the key is that of the node to which the left word leads
abbrev pub decided_found : ListSearch → Aim → Left → ℕ → ℕ → ListSearch × Found
decided_found stay Add left cur next = (stay, Answer (Plain No))
decided_found stay Del left cur next = if is_modified left.word || is_modified next then (stay, Contended) else (DelReady left cur next, Ready)
decided_found stay Has left cur next = (stay, Answer (Plain Yes))

abbrev pub decided : ListSearch → Sought → Left → ℕ → ℕ → Bool → ListSearch × Found
decided stay sought left cur next found = if found then decided_found stay sought.aim left cur next else decided_absent stay sought.aim left cur

-- the search has come to its end: marked nodes on the way are unlinked first
abbrev pub finished : ListSearch → Sought → Left → Bool → ℕ → ℕ → Bool → ListSearch × Found
finished stay sought left run cur next found =
    if run then (if is_modified left.word then (stay, Contended) else (Unlink sought left cur next found, Going)) else decided stay sought left cur next found

-- the search goes on to a node, if there is one
abbrev pub moved_on : ListSearch → Sought → Left → Bool → ℕ → ListSearch × Found
moved_on stay sought left run cur = if cur == 0 then finished stay sought left run cur 0 false else (Next sought left run cur, Going)

-- the next word of a node was loaded
abbrev pub met_next : ListSearch → Sought → Left → Bool → ℕ → ℕ → ListSearch × Found
met_next stay sought left run cur next = if is_marked next then moved_on stay sought left true (led next) else (Key sought left run cur next, Going)

-- the key of a node was loaded
abbrev pub met_key : ListSearch → Sought → Left → Bool → ℕ → ℕ → ℕ → ListSearch × Found
met_key stay sought left run cur next key =
    if nat_le sought.key key then finished stay sought left run cur next (key == sought.key)
    else moved_on stay sought (record { place = next_place cur; word = next }) false (led next)

-- the next word of a node was loaded, on the way to the least one
abbrev pub met_least : ListSearch → Left → Bool → ℕ → ℕ → ListSearch × Found
met_least stay left run cur next = if is_marked next then least_moved stay left true (led next) else least_met stay left run cur

-- what a search is after its step, and what it found
abbrev pub fed : ListSearch → Seen → ListSearch × Found
fed (Start sought start) seen = moved_on (Start sought start) sought (record { place = start; word = seen.before }) false (led seen.before)
fed (Next sought left run cur) seen = met_next (Next sought left run cur) sought left run cur seen.before
fed (Key sought left run cur next) seen = met_key (Key sought left run cur next) sought left run cur next seen.before
fed (Unlink sought left cur next found) seen =
    if seen.won then decided (Unlink sought left cur next found) sought (record { place = left.place; word = leading left.word cur }) cur next found
    else (Unlink sought left cur next found, Contended)
fed (AddReady left cur) seen = (AddReady left cur, Ready)
fed (DelReady left cur next) seen = (DelReady left cur next, Ready)
fed (LeastStart start) seen = least_moved (LeastStart start) (record { place = start; word = seen.before }) false (led seen.before)
fed (LeastNext left run cur) seen = met_least (LeastNext left run cur) left run cur seen.before
fed (LeastUnlink left cur) seen = if seen.won then least_reached (LeastUnlink left cur) cur else (LeastUnlink left cur, Contended)
fed (LeastKey cur) seen = least_told (LeastKey cur) seen.before

-- a search has a next step; its reference is one that a next word can lead to
abbrev pub Asks : ListSearch → Type 0
Asks (Start sought start) = Unit {0}
Asks (Next sought left run cur) = cur < 2 ^ 23
Asks (Key sought left run cur next) = cur < 2 ^ 23
Asks (Unlink sought left cur next found) = cur < 2 ^ 23
Asks (AddReady left cur) = ⊥
Asks (DelReady left cur next) = ⊥
Asks (LeastStart start) = Unit {0}
Asks (LeastNext left run cur) = cur < 2 ^ 23
Asks (LeastUnlink left cur) = cur < 2 ^ 23
Asks (LeastKey cur) = cur < 2 ^ 23

-- a search can name a list
abbrev pub IsReady : ListSearch → Type 0
IsReady (AddReady left cur) = cur < 2 ^ 23
IsReady (DelReady left cur next) = cur < 2 ^ 23
IsReady _ = ⊥

-- ---- the list

-- nothing is named
abbrev pub no_offer : Offered
no_offer = record { entries = []; stores = [] }

-- the block that a list names: an add's alone, for its node
abbrev pub block_for : Op → ℕ → ℕ
block_for op block = if is_add op then block else 0

-- node 1 of the block, with the key, is linked between the left word's node and the next
abbrev pub add_offer : Left → ℕ → ℕ → ℕ → Offered
add_offer left cur key block =
    record {
      entries = record { target = left.place; from = left.word; to = leading left.word (reference_to block 1) } ∷ [];
      stores = (key_place (reference_to block 1), key) ∷ (next_place (reference_to block 1), 2 * cur) ∷ [];
    }

-- the node is marked, and then unlinked
abbrev pub del_offer : Left → ℕ → ℕ → Offered
del_offer left cur next =
    record {
      entries =
          record { target = next_place cur; from = next; to = marking next }
          ∷ record { target = left.place; from = left.word; to = leading left.word (led next) } ∷ [];
      stores = [];
    }

-- what a ready search names
abbrev pub offered : ListSearch → Op → ℕ → Offered
offered (AddReady left cur) op block = add_offer left cur op.key (block_for op block)
offered (DelReady left cur next) op block = del_offer left cur next
offered _ op block = no_offer
