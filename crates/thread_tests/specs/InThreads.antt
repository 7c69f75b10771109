-- What threads do with the handles of a queue, and what is known once they have given them back.
use Rattle.std.specs.Prelude.{◌≡◌, ℕ, List, [], ◌∷◌, map}
use Rattle.std.specs.List.{range_with_len}
use Rattle.lin_report.specs.declared.calls.Op.{Op}
use Rattle.lin_report.specs.declared.calls.Receipt.{Receipt}
use Rattle.lin_report.specs.declared.calls.TheConstants.{PUT, TAKE}
use Rattle.fast_slow_engine.specs.declared.setup.Setup.{Setup}
use Rattle.ms_queue_form.specs.Form.{queue_form}
use Rattle.move_orders.specs.SeatLines.{ops_of}
use Rattle.shared_memory.specs.Views.{Face}
use Rattle.thread_laws.specs.Headline.{MeetsInSomeOrder}
use Rattle.handles.specs.Opening.{HasNumbers, IsSameHandle}

-- the thread of this number puts its number, and takes
abbrev pub calls_of : ℕ → List Op
calls_of number = record { code = PUT; key = 0; value = number } ∷ record { code = TAKE; key = 0; value = 0 } ∷ []

-- the handle was given back, and has the lines of these two calls
pub record HasCalledTwice {C S W : Type 0} (number : ℕ) (before after : Face C S W) : Type 0 where
  pub same : IsSameHandle before after
  pub calls : ops_of after.view.receipts ≡ calls_of number

-- the run of the calls of so many threads in some order of the seats, each of which is answered: it meets what every run
-- meets
pub record IsRunOfThreads (threads blocks failures ticks claimed : ℕ) : Type 0 where
  pub setup : Setup
  pub numbers : HasNumbers setup threads blocks failures
  pub lines : List Receipt
  pub meets : MeetsInSomeOrder queue_form setup (map calls_of (range_with_len 0 threads)) lines ticks claimed
