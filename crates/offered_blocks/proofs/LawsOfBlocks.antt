-- The laws, from the lemmas of each kind of step.
use Rattle.std.proofs.Common.{refl}
use Rattle.normal_traits.specs.NormalForm.{NormalForm}
use Rattle.normal_traits.specs.Laws.{Laws}
use Rattle.offered_blocks.specs.HelperLaws as helper
use Rattle.offered_blocks.specs.OtherLaws as other
use Rattle.offered_blocks.specs.BesideLaws as beside_law
use Rattle.offered_blocks.specs.RecordLaws as record_law
use Rattle.offered_blocks.proofs.Blocks.Opening.{offers_open}
use Rattle.offered_blocks.proofs.Blocks.Settled.{from_pending, none_marked, pending_executes, shown_executes, shown_took, stop_known}
use Rattle.offered_blocks.proofs.Blocks.Settled as settled
use Rattle.offered_blocks.proofs.Helpers.Allowed.{from_untaken}
use Rattle.offered_blocks.proofs.Helpers.Helping.{helps_kept}
use Rattle.offered_blocks.proofs.Helpers.Running.{run_helps, run_knows}
use Rattle.offered_blocks.proofs.Others.Beside as beside
use Rattle.offered_blocks.proofs.Others.Exchanges.{exchange_kept}
use Rattle.offered_blocks.proofs.Others.Stores.{store_kept, store_step}
use Rattle.offered_blocks.proofs.Records.Naming.{executes_now, name_kept}
use Rattle.offered_blocks.proofs.Records.Puts.{leaves_kept, put_kept, put_step}
use Rattle.offered_blocks.proofs.Records.RecordSteps as record_step

module _ {S W : Type 0} (form : NormalForm S W) (laws : Laws form) where
  pub helpers_keep : helper.HelpersKeep form
  helpers_keep world after offers block offer holds stands helps = helps_kept form laws world offers holds block offer stands after helps

  pub runs_help : helper.RunsHelp form
  runs_help world offers block offer walk seen words holds stands knows made =
      (run_helps form world offers holds block offer stands walk seen words knows made, run_knows form world offers holds block offer stands walk seen words knows made)

  pub late_wins_nothing : helper.LateWinsNothing form
  late_wins_nothing world offers block offer j entry holds stands listed behind at =
      let pending = from_pending form world offers holds block offer stands j entry listed behind at in
      (pending_executes form world offers holds block offer stands j entry listed behind pending, pending, from_untaken form world offers holds.blocks block offer stands j entry listed at)

  pub shown_takes : helper.ShownTook form
  shown_takes world offers block offer j entry holds stands listed behind shown =
      (shown_took form world offers holds block offer stands j entry listed behind shown, shown_executes form world offers holds block offer stands j entry listed behind shown)

  pub stops_agree : helper.StopsAgree form
  stops_agree world offers block offer stop place holds stands here there = settled.stops_agree form world offers holds block offer stands stop place here there

  pub no_bits_left : helper.NoBitsLeft form
  no_bits_left world offers block offer stop place holds stands named stopped may = none_marked form world offers holds block offer stands named stop stopped place may

  pub opens_holding : other.OpensHolding form
  opens_holding = offers_open form laws

  pub stores_keep : other.StoresKeep form
  stores_keep world offers place word holds engines clear = (store_kept form laws world offers holds place word engines clear, store_step form laws world offers holds place word engines clear)

  pub exchanges_keep : other.ExchangesKeep form
  exchanges_keep world after offers maker list entry holds is = exchange_kept form laws world after offers holds maker list entry is

  pub requests_beside : beside_law.RequestsBeside form
  requests_beside world after offers request seen asks requested step = beside.request_beside form world offers request after seen asks requested step

  pub entries_beside : beside_law.EntriesBeside form
  entries_beside = beside.entries_beside form laws

  pub names_keep : other.NamesKeep form
  names_keep world offers block offer word holds can =
      (name_kept form laws world offers holds block offer word can, executes_now form laws world offers holds block offer word can, put_step form laws world offers holds offer.list.call.seat word can.seated)

  pub leaves_keep : other.LeavesKeep form
  leaves_keep world offers block offer stop word holds stands named stopped left = (
    leaves_kept form laws world offers holds offer.list.call.seat word named.seated block offer stands named refl stop (stop_known form world offers holds block offer stands stop stopped) left,
    put_step form laws world offers holds offer.list.call.seat word named.seated,
  )

  pub records_keep : other.RecordsKeep form
  records_keep world offers seat word holds few before after = (put_kept form laws world offers holds seat word few before after, put_step form laws world offers holds seat word few)

  pub offers_tell : record_law.OffersTell form
  offers_tell world offers call begun number round block offer few rounds small stands of none = record_step.offers_right form laws world offers call begun number round block offer few rounds small stands of none

  pub answers_tell : record_law.AnswersTell form
  answers_tell world offers call begun since from outcome fits early right fixed none =
      record_step.completed_right form laws world offers call begun from outcome fits (record_step.answered form laws world offers call begun since outcome early right fixed none)

  pub changes_tell : record_law.ChangesTell form
  changes_tell world offers call begun block names from outcome fits by fixed =
      record_step.completed_right form laws world offers call begun from outcome fits (record_step.done form laws world offers call begun block names outcome by fixed)

  pub restarts_tell : record_law.RestartsTell form
  restarts_tell world offers call begun block names shape dead = record_step.restarts form laws world offers call begun shape block names dead
