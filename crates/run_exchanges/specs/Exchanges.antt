-- The exchanges of a run that were won at versioned places of the client, by its moves and their words alone; and how the
-- journal of the run tells them.
use Rattle.std.specs.Prelude.{◌≡◌, ◌≢◌, ℕ, ◌+◌, ◌*◌, ◌≤◌, ◌==◌, ◌||◌, ◌&&◌, not, nat_le, if◌then◌else◌, Bool, true, List, [], ◌∷◌, ◌++◌, map, length, slice_get, Option, Some, None, All, AllPairs}
use Rattle.step_memory.specs.declared.steps.Request.{Request}
use Rattle.step_memory.specs.declared.steps.Request.TheVariants.{Exchange}
use Rattle.step_memory.specs.Step.{seen_of}
use Rattle.word_fields.specs.Versioned.{cleared_word, marked_word, versioned_bit, versioned_version}
use Rattle.node_arena.specs.declared.places.TheConstants.{FIRST_WORDS}
use Rattle.node_arena.specs.MemoryMap.{is_root_place}
use Rattle.normal_traits.specs.World.{Listed, Won, Among}
use Rattle.normal_traits.specs.World.Maker.{By}
use Rattle.normal_traits.specs.NormalForm.{NormalForm}
use Rattle.fast_slow_engine.specs.declared.phases.Phase.{Phase}
use Rattle.fast_slow_engine.specs.declared.phases.Phase.TheVariants.{Help}
use Rattle.fast_slow_engine.specs.declared.help.Helping.{Helping}
use Rattle.fast_slow_engine.specs.declared.help.Helping.TheVariants.{Known}
use Rattle.fast_slow_engine.specs.declared.help.Work.{Work}
use Rattle.fast_slow_engine.specs.declared.help.Work.TheVariants.{Execute}
use Rattle.fast_slow_engine.specs.declared.setup.Setup.{Setup}
use Rattle.fast_slow_engine.specs.HelpWords.{named_block}
use Rattle.fast_slow_engine.specs.Mechs.{Mech}
use Rattle.fast_slow_engine.specs.PhaseTable.{mech_request}
use Rattle.fast_slow_engine.specs.Runs.{Move, RunState, AreMoves, begun, run_of}
use Rattle.offered_blocks.specs.Blocks.{IsExecuting}
use Rattle.helper_knowledge.specs.Callers.{called}
use Rattle.run_queue.specs.QueueLaws.{Publishes}
use Rattle.run_invariant.specs.RunGhosts.{world_of}

-- an exchange that was won: its place, and the words before and after it, the latter without its modified bit; what a run
-- is said to have done at most once is one of these
pub record WonExchange : Type 0 where
  pub place : ℕ
  pub before : ℕ
  pub after : ℕ

-- whether a client may have words at the place: at head and tail, and behind the first words, which are the engine's
abbrev pub is_clients_place : ℕ → Bool
is_clients_place place = is_root_place place || nat_le FIRST_WORDS place

-- whether a word is exchanged for one of another version: the clearing of a bit that a helper has set is none, it leaves
-- the version
abbrev pub changes_version : ℕ → ℕ → Bool
changes_version from to = not (versioned_version to == versioned_version from)

-- what a request that was won or not has exchanged, at a place of the client that is versioned
abbrev pub exchanged_by : (ℕ → Bool) → Request → Bool → List WonExchange
exchanged_by is_versioned (Exchange at from to) true =
    if is_clients_place at && is_versioned at && changes_version from to then record { place = at; before = from; after = cleared_word to } ∷ [] else []
exchanged_by is_versioned _ _ = []

module _ {S W : Type 0} (form : NormalForm S W) where
  -- what a move has exchanged, as the request of its machine and what that saw say; no list and no journal is asked
  abbrev pub moved_exchanges : Option (Mech S W) → Move → RunState S W → List WonExchange
  moved_exchanges None move state = []
  moved_exchanges (Some mech) move state =
      let request = mech_request form (begun move.begins mech) in exchanged_by form.is_versioned request (seen_of request state.words).won

  -- of a run, the newest first: the list with which the journal is compared
  abbrev pub won_exchanges : Setup → List Move → List WonExchange
  won_exchanges setup [] = []
  won_exchanges setup (move ∷ older) =
      moved_exchanges (slice_get (run_of form setup older).mechs move.seat) move (run_of form setup older) ++ won_exchanges setup older

-- no word stands at one place before two of them, so none is won twice; each raises the version by one; and there
-- are at most eight for each block, so that no version wraps
pub record AreAtMostOnce (cap : ℕ) (exchanges : List WonExchange) : Type 0 where
  pub once_from : AllPairs (λ (a b : WonExchange). a.place ≡ b.place → a.before ≢ b.before) exchanges
  pub raised : All (λ (e : WonExchange). versioned_version e.after ≡ versioned_version e.before + 1) exchanges
  pub few : length exchanges ≤ 8 * (cap + 1)

-- what an item of the journal tells of its exchange
abbrev pub told_exchange : Won → WonExchange
told_exchange won = record { place = won.place; before = won.before; after = won.after }

-- an item that an entry of a list made is the exchange of that entry of that list
abbrev pub IsOfItsEntry : Won → Type 0
IsOfItsEntry won = (list : Listed) (j : ℕ) → won.maker ≡ By list j → slice_get list.entries j ≡ Some (record { target = won.place; from = won.before; to = won.after })

-- no entry of a list made both
abbrev pub AreOfTwoEntries : Won → Won → Type 0
AreOfTwoEntries won mate = (list : Listed) (j : ℕ) → won.maker ≡ By list j → mate.maker ≢ By list j

-- the word's modified bit was set, and is clear, and nothing else changed
pub record IsCleared (from to : ℕ) : Type 0 where
  pub marked : versioned_bit from ≡ 1
  pub cleared : to ≡ cleared_word from

-- the block whose list a helper executes
abbrev pub block_worked : {S W : Type 0} → Work S W → ℕ → Option ℕ
block_worked (Execute run) word = Some (named_block word)
block_worked _ word = None

abbrev pub block_helped : {S W : Type 0} → Helping S W → Option ℕ
block_helped (Known word does) = block_worked does word
block_helped _ = None

abbrev pub block_executed : {S W : Type 0} → Phase S W → Option ℕ
block_executed (Help drives help) = block_helped help.at
block_executed _ = None

module _ {S W : Type 0} (form : NormalForm S W) where
  -- a helper executes the list for its call: the list is that of the block on which it works; the record of the call names
  -- this block, with the call's number; and the seat of the record makes the call and has published it
  pub record IsHelped (setup : Setup) (older : List Move) (mech : Mech S W) (list : Listed) : Type 0 where
    pub works : block_executed mech.phase ≡ Some list.block
    pub named : IsExecuting (world_of form setup older) list
    pub owner : Mech S W
    pub seated : slice_get (run_of form setup older).mechs list.call.seat ≡ Some owner
    pub calls : called owner ≡ list.call
    pub published : Publishes owner.phase

  -- a move of this machine makes the exchange of the item for the list: it is of the list's call itself, or a helper's, which
  -- sets the bit beside the entry
  pub data IsMadeFor (setup : Setup) (older : List Move) (mech : Mech S W) (list : Listed) (won : Won) : Type 0 where
    own : called mech ≡ list.call → mech_request form mech ≡ Exchange won.place won.before won.after → IsMadeFor setup older mech list won
    helped : IsHelped setup older mech list → mech_request form mech ≡ Exchange won.place won.before (marked_word won.after) → IsMadeFor setup older mech list won

  -- the run came to a move that made the exchange of the item for the list, and won
  pub record IsWonBy (setup : Setup) (moves : List Move) (list : Listed) (won : Won) : Type 0 where
    pub newer : List Move
    pub move : Move
    pub older : List Move
    pub mech : Mech S W
    pub made : moves ≡ newer ++ move ∷ older
    pub seated : slice_get (run_of form setup older).mechs move.seat ≡ Some mech
    pub makes : IsMadeFor setup older (begun move.begins mech) list won
    pub wins : (seen_of (mech_request form (begun move.begins mech)) (run_of form setup older).words).won ≡ true

  -- each exchange that was won at a versioned place of the client and left the version has but cleared the bit of the word
  -- that stood there: so all others are told
  abbrev pub OnlyClears : Setup → List Move → Type 0
  OnlyClears setup moves =
      (newer older : List Move) (move : Move) (mech : Mech S W) (at from to : ℕ) → moves ≡ newer ++ move ∷ older → slice_get (run_of form setup older).mechs move.seat ≡ Some mech
      → mech_request form (begun move.begins mech) ≡ Exchange at from to → (seen_of (mech_request form (begun move.begins mech)) (run_of form setup older).words).won ≡ true
      → is_clients_place at ≡ true → form.is_versioned at ≡ true → versioned_version to ≡ versioned_version from → IsCleared from to

  -- the journal of a run tells exactly the exchanges that were won, in order, each that a list made as its entry's, and as
  -- won by a move of the list's call or of a helper of that call, and no two as one entry's; so what the journal says of
  -- makers and causes is said of what happened. The rest but cleared bits
  pub record TellsExchanges (setup : Setup) (moves : List Move) : Type 0 where
    pub same : map told_exchange (world_of form setup moves).journal ≡ won_exchanges form setup moves
    pub listed : All IsOfItsEntry (world_of form setup moves).journal
    pub called_for : (won : Won) (list : Listed) (j : ℕ) → Among won (world_of form setup moves).journal → won.maker ≡ By list j → IsWonBy setup moves list won
    pub once : AllPairs AreOfTwoEntries (world_of form setup moves).journal
    pub rest : OnlyClears setup moves

  -- so it is of every run
  abbrev pub JournalsTell : Type 0
  JournalsTell = (setup : Setup) (moves : List Move) → AreMoves form setup moves → TellsExchanges setup moves

  -- and the exchanges were won at most once
  abbrev pub ExchangesOnce : Type 0
  ExchangesOnce = (setup : Setup) (moves : List Move) → AreMoves form setup moves → AreAtMostOnce setup.cap (won_exchanges form setup moves)
