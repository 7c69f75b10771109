-- A step of a helper on its own block: what holds of the block afterwards, and that a listed exchange wins for
-- the executed list alone.
use Rattle.std.proofs.Common.{◌≡◌, ap, ℕ, Bool, inl, inr, Option, Some, arith}
use Rattle.std.proofs.lemmas.Bool.{cases_eq}
use Rattle.step_memory.specs.declared.steps.Seen.{Seen}
use Rattle.word_fields.specs.Versioned.{versioned_version}
use Rattle.normal_traits.specs.declared.lists.Entry.{Entry}
use Rattle.normal_traits.specs.World.{World}
use Rattle.normal_traits.specs.NormalForm.{NormalForm}
use Rattle.cas_executor.specs.SlowRuns.{SlowWalk, slow_request, slow_fed, slow_execution, state_place}
use Rattle.cas_executor_laws.specs.ExecRuns.{IsEntry}
use Rattle.cas_executor_laws.specs.Entries.{IsPast}
use Rattle.cas_executor_laws.specs.Parts.{Offered, OwnDeed, RequestMade, Knows, Helps, TookBy, view_in}
use Rattle.cas_executor_laws.proofs.OfferedPartsKept.{entry_at, offered_kept}
use Rattle.cas_executor_laws.proofs.StepsAreDeeds.{deed_of, helps_after}
use Rattle.offered_blocks.specs.Blocks.{Offer, site_of, has_taken, IsOffer, HasBlocks, IsExecuting}
use Rattle.offered_blocks.proofs.Blocks.Named.{named_now, shows_taken}

module _ {S W : Type 0} (form : NormalForm S W) (world : World) (offers : ℕ → Option (Offer S)) (blocks : HasBlocks form world offers)
    (block : ℕ) (offer : Offer S) (stands : offers block ≡ Some offer) (walk : SlowWalk) (seen : Seen) (after : ℕ → ℕ) (took' : ℕ → Bool)
    (knows : Knows (site_of offer) world.words (has_taken world.journal offer.list) walk) (made : RequestMade (slow_request walk) world.words after seen)
    (by : TookBy walk seen (has_taken world.journal offer.list) took') where
  mine : IsOffer form world block offer
  mine = blocks.offered block offer stands

  pub own_deed : OwnDeed (site_of offer) world.words (has_taken world.journal offer.list) after took'
  own_deed = deed_of (site_of offer) mine.site world.words after (has_taken world.journal offer.list) took' walk seen knows made by

  pub own_parts : Offered (site_of offer) after took'
  own_parts = offered_kept (site_of offer) mine.site world.words (has_taken world.journal offer.list) after took' own_deed.deed mine.parts

  -- the helper knows what it needs for its next step
  pub own_helps : Helps (site_of offer) after took' (slow_fed walk seen) (slow_execution walk seen)
  own_helps = helps_after (site_of offer) mine.site world.words after (has_taken world.journal offer.list) took' walk seen mine.parts (shows_taken form world offers blocks block offer stands walk knows) knows made by

  abbrev own : Entry
  own = (entry_at offer.list.entries walk.next knows.within).0

  own_listed : IsEntry offer.list.entries walk.next own
  own_listed = (entry_at offer.list.entries walk.next knows.within).1

  -- an entry whose target stands at `from` is pending
  from_pending : world.words own.target ≡ own.from → world.words (state_place offer.list.block walk.next) ≡ 0
  from_pending at =
      let life = mine.parts.lives walk.next own own_listed in
      let state = world.words (state_place offer.list.block walk.next) in
      elim (cases_eq state 0) [
        | inl pending ↦ pending
        | inr decided ↦ (
            let past : IsPast own (view_in (site_of offer) world.words (has_taken world.journal offer.list) walk.next own) = elim (cases_eq state 1) [
              | inl one ↦ life.taken (life.succeeded one)
              | inr other ↦ life.failed_past (let known = life.known in omega (arith, known, decided, other))
            ] in
            let v = ap versioned_version at in
            absurd (omega (arith, past, v)))
      ]

  -- a listed exchange that wins is that of the list which is executed now: a late helper wins nothing
  pub installs_named : world.words own.target ≡ own.from → IsExecuting world offer.list
  installs_named at =
      named_now form world offers blocks block offer stands walk.next knows.within
      (λ i before. (let e = entry_at offer.list.entries i (omega (arith, before, knows.within)) in (knows.done i e.0 e.1 before).succeeded)) (from_pending at)
