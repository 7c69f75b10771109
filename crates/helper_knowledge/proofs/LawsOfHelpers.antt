-- The laws, from the lemmas on what helpers know.
use Rattle.std.proofs.Common.{◌≡◌, refl, ℕ, Some, None}
use Rattle.normal_traits.specs.NormalForm.{NormalForm}
use Rattle.normal_traits.specs.Laws.{Laws}
use Rattle.helper_knowledge.specs.KnowledgeLaws as law
use Rattle.helper_knowledge.specs.CallLaws as call_law
use Rattle.helper_knowledge.proofs.Kept.CallersFollow.{begins, goes_on}
use Rattle.helper_knowledge.proofs.Kept.KindsKeep.{knows_work_kept, named_by_kept}
use Rattle.helper_knowledge.proofs.Offers.Contents.{contents_filled}
use Rattle.helper_knowledge.proofs.Own.Goes.{work_goes}
use Rattle.helper_knowledge.proofs.Own.WorkKinds.{work_kind}
use Rattle.helper_knowledge.proofs.Queue.CallsBelow as below
use Rattle.helper_knowledge.proofs.Queue.Meeting.{meeting}
use Rattle.helper_knowledge.proofs.WonExchanges.Advances.{won_advances}

none_in : {A : Type 0} (block : ℕ) → None ≡ Some block → A
none_in block e = absurd cc

module _ {S W : Type 0} (form : NormalForm S W) (laws : Laws form) where
  pub knowledge_kept : law.KnowledgeKept form
  knowledge_kept world after offers offers' mover hand other holds kind apart caller caller' head word own does follows can knows =
      knows_work_kept form laws world after offers offers' holds mover hand kind other (λ block in_hand. (apart block in_hand).0) (λ block in_hand. (apart block in_hand).1) caller caller' head word follows own does can knows

  pub named_kept : law.NamedKept form
  named_kept world after offers offers' mover hand phase head word holds kind is =
      named_by_kept form laws world after offers offers' holds mover hand kind None (λ block e. none_in block e) (λ block e. none_in block e) phase head word is

  pub work_is_kind : law.WorkIsKind form
  work_is_kind world after offers caller head word mover hand own own' identity cap seen does rests spare can is knows =
      work_kind form laws world after offers caller head word hand own own' identity cap seen rests spare mover does can is knows

  pub work_goes_on : law.WorkGoesOn form
  work_goes_on world after offers caller head word hand own own' identity cap seen does rests spare small can is going knows =
      work_goes form laws world after offers caller head word hand own own' identity cap seen rests spare small does can is going knows

  pub filled_holds : law.FilledHolds form
  filled_holds world offers caller head word block stores offer holds bounded knows = contents_filled form laws world holds.shape offers caller head word block bounded stores offer knows

  pub advances_are_right : law.AdvancesAreRight form
  advances_are_right world offers head word call begun mover hand filled to holds meets new may = won_advances form laws world offers holds head word call begun meets mover hand filled new to may

  pub wins_meet : call_law.WinsMeet form
  wins_meet state world offers head word mech count small words stood wins found seat_is known = meeting form state world offers head word mech count small words stood wins found seat_is known

  pub numbers_below : call_law.NumbersBelow form
  numbers_below = below.numbers_below form

  pub calls_follow : call_law.CallsFollow form
  calls_follow mech op seen count number = (goes_on form mech seen count count number refl, λ now few. begins form op mech seen count now number few)
