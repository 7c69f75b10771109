-- What a machine's phase says by itself, kept by its own steps: the record word that a helper has loaded fits its work, and
-- the stores of a call's own offer tell of the call first.
use Rattle.std.specs.Prelude.{◌≡◌, ℕ, ◌⊎◌, true, List}
use Rattle.lin_report.specs.declared.calls.Op.{Op}
use Rattle.lin_report.specs.declared.calls.Outcome.{Outcome}
use Rattle.word_fields.specs.declared.records.RecordPhase.TheVariants.{Generate, Executing, Wrapping}
use Rattle.word_fields.specs.Records.{record_phase}
use Rattle.help_queue.specs.Gathers.{is_open}
use Rattle.fast_slow_engine.specs.declared.phases.Phase.{Phase}
use Rattle.fast_slow_engine.specs.declared.phases.Phase.TheVariants as phase
use Rattle.fast_slow_engine.specs.declared.phases.Applying.TheVariants.{Fill}
use Rattle.fast_slow_engine.specs.declared.help.Helping.{Helping}
use Rattle.fast_slow_engine.specs.declared.help.Helping.TheVariants.{Known}
use Rattle.fast_slow_engine.specs.declared.help.Work.{Work}
use Rattle.fast_slow_engine.specs.declared.help.Work.TheVariants as work
use Rattle.fast_slow_engine.specs.HelpWords.{again_word, executing_word, told_word, wrapping_word}
use Rattle.fast_slow_engine.specs.OfferStores.{own_stores}

-- the words to which a helper takes a record on: a block is named, its list has stopped, the call has its outcome, or it
-- begins its next round. Each is made of the loaded word, so that a won exchange is an advance of that record
pub data GoesTo (word to : ℕ) : Type 0 where
  executes : (block : ℕ) → record_phase word ≡ Generate → to ≡ executing_word word block → GoesTo word to
  settles : (stop : ℕ) → record_phase word ≡ Executing → to ≡ wrapping_word word stop → GoesTo word to
  completes : (outcome : Outcome) → is_open (record_phase word) ≡ true → to ≡ told_word word outcome → GoesTo word to
  restarts : record_phase word ≡ Wrapping → to ≡ again_word word → GoesTo word to

-- the record names a block, whose list is executed or wrapped up
abbrev pub IsEngagedWord : ℕ → Type 0
IsEngagedWord word = (record_phase word ≡ Executing) ⊎ (record_phase word ≡ Wrapping)

-- the phase of the loaded record, by the work that a helper does with it
abbrev pub WorkFits : {S W : Type 0} → ℕ → Work S W → Type 0
WorkFits word work.Head = is_open (record_phase word) ≡ true
WorkFits word work.Op = record_phase word ≡ Generate
WorkFits word (work.Value op) = record_phase word ≡ Generate
WorkFits word (work.Generate op search at) = record_phase word ≡ Generate
WorkFits word (work.Fill stores made) = record_phase word ≡ Generate
WorkFits word (work.Advance to) = GoesTo word to
WorkFits word (work.Read read) = IsEngagedWord word
WorkFits word (work.Execute run) = record_phase word ≡ Executing
WorkFits word (work.Wrap wrap) = record_phase word ≡ Wrapping

-- the same of a helper, which has loaded no record before its work and after it
abbrev pub HelpingFits : {S W : Type 0} → Helping S W → Type 0
HelpingFits (Known word does) = WorkFits word does
HelpingFits _ = Unit {0}

-- the stores of an offer begin with the three that tell of its call, all in one block; the client's follow
pub record TellsCall (stores : List (ℕ × ℕ)) : Type 0 where
  pub block : ℕ
  pub seat : ℕ
  pub number : ℕ
  pub op : Op
  pub rest : List (ℕ × ℕ)
  pub is : stores ≡ own_stores block seat number op rest

-- of a phase: a helper helps among the seats of its run, with a record that fits its work, and who fills a block for itself
-- tells of its call first
abbrev pub PhaseFits : {S W : Type 0} → ℕ → Phase S W → Type 0
PhaseFits seats (phase.Help drives help) = (help.seats ≡ seats) × HelpingFits help.at
PhaseFits seats (phase.Apply run stores (Fill made)) = TellsCall stores.items
PhaseFits seats _ = Unit {0}
