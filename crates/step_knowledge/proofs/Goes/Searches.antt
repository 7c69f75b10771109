-- What a machine knows after a step of its search, and where it tries again.
use Rattle.std.proofs.Common.{◌≡◌, ◌∙◌, refl, ap, ℕ, ◌+◌, ◌^◌, ◌<◌, ◌&&◌, min, not, if◌then◌else◌, Bool, true, false, length, Option, Some, None, arith}
use Rattle.arrayvec.specs.ArrayVec.{ArrayVec}
use Rattle.lin_report.specs.declared.calls.Outcome.{Outcome}
use Rattle.lin_report.specs.declared.calls.Outcome.TheVariants.{Plain, ValueOf}
use Rattle.lin_report.specs.declared.calls.Reply.TheVariants.{Exhausted}
use Rattle.lin_report.specs.Object.{IsCommandOf}
use Rattle.normal_traits.specs.declared.form.Found.{Found}
use Rattle.normal_traits.specs.declared.form.Found.TheVariants as found
use Rattle.normal_traits.specs.World.{World}
use Rattle.normal_traits.specs.NormalForm.{NormalForm}
use Rattle.normal_traits.specs.Steps.{IsOffered}
use Rattle.normal_traits.specs.Laws.{FoundWell, Laws}
use Rattle.cas_executor.specs.FastRuns.{FastWalk}
use Rattle.fast_slow_engine.specs.declared.phases.Announcing.TheVariants as announcing
use Rattle.fast_slow_engine.specs.declared.phases.Phase.TheVariants.{Announce, Apply, End, Generate}
use Rattle.fast_slow_engine.specs.declared.phases.Generating.TheVariants.{Search, LookForBlock, Claim}
use Rattle.fast_slow_engine.specs.declared.phases.Applying.TheVariants.{Fill, Execute}
use Rattle.fast_slow_engine.specs.Hands.{block_of, holds_none}
use Rattle.fast_slow_engine.specs.Mechs.{Mech}
use Rattle.fast_slow_engine.specs.OfferStores.{own_stores}
use Rattle.fast_slow_engine.specs.PhaseTable.{in_phase, may_search, offered, searched, stores_for, told, tried, with_hand}
use Rattle.offered_blocks.specs.Blocks.{Offer}
use Rattle.helper_knowledge.specs.Callers.{Caller}
use Rattle.run_world.specs.Ghosts.{Held, SeatGhost}
use Rattle.run_world.specs.SeatSteps.{gave_up, held_in, newly_held, offered_block}
use Rattle.step_knowledge.specs.Known.{KnowsFill, KnowsIn, KnowsRun, NoneFrom}

-- what is known of a seat, by its parts
abbrev pub seat_with : {S : Type 0} → ℕ → Option (Held S) → ℕ → Option (Offer S) → SeatGhost S
seat_with begun held since filled = record { begun = begun; held = held; carried = record { since = since; filled = filled } }

module _ {S W : Type 0} (form : NormalForm S W) (world : World) (offers : ℕ → Option (Offer S)) (callers : ℕ → Caller) (begun : ℕ) (filled : Option (Offer S)) where
  -- a machine knows this, with what is left of a list in its phase
  abbrev pub Knows : ℕ → Option (Held S) → Mech S W → Type 0
  Knows since list new = KnowsIn form new.phase new (seat_with begun (held_in new.phase list) since filled) world offers callers

  -- a block in hand is one of the arena
  abbrev pub HasSmall : Mech S W → Type 0
  HasSmall mech = (block : ℕ) → mech.hand ≡ Some block → block < 2 ^ 17

  block_small : (hand : Option ℕ) → ((block : ℕ) → hand ≡ Some block → block < 2 ^ 17) → block_of hand < 2 ^ 17
  block_small None small = omega arith
  block_small (Some block) small = small block refl

  needed_small : (b : Bool) (hand : Option ℕ) → ((block : ℕ) → hand ≡ Some block → block < 2 ^ 17) → (if b then block_of hand else 0) < 2 ^ 17
  needed_small true hand small = block_small hand small
  needed_small false hand small = omega arith

  pub told_knows : (outcome : Outcome) (mech : Mech S W) (since : ℕ) (list : Option (Held S)) → Knows since list (told outcome mech)
  told_knows (Plain reply) mech since list = tt
  told_knows (ValueOf reference) mech since list = tt

  -- an offer begins with the filling of a block, or with its list
  opens_knows : (b : Bool) (run : FastWalk) (stores : ArrayVec (ℕ × ℕ)) (new : Mech S W) (since : ℕ) (held : Held S)
      → (b ≡ true → KnowsFill form world run stores 0 held) → (b ≡ false → KnowsRun form world run held)
      → KnowsIn form (Apply run stores (if b then Fill 0 else Execute)) new (seat_with begun (Some held) since filled) world offers callers
  opens_knows true run stores new since held fills runs = fills refl
  opens_knows false run stores new since held fills runs = runs refl

  module _ (laws : Laws form) (shape : form.shape world) where
    tries_knows : (b : Bool) (list : Option (Held S)) (mech : Mech S W) → IsCommandOf form.object mech.op
        → (let new = if b then in_phase (Generate (form.begin_of mech.op) Search) mech else in_phase (Announce announcing.Value) mech in Knows (length world.changes) list new)
    tries_knows true list mech command = (laws.of_world.begins_asking mech.op command, laws.of_world.begins_knowing world mech.op command shape)
    tries_knows false list mech command = tt

    -- a call that tries again begins a search, which knows what holds now, or is announced
    pub tried_knows : (list : Option (Held S)) (mech : Mech S W) → IsCommandOf form.object mech.op → Knows (length world.changes) list (tried form mech)
    tried_knows list mech command = tries_knows (may_search mech) list mech command

    -- the list that a ready search names is offered
    named_knows : (identity since : ℕ) (s : S) (mech : Mech S W) → IsCommandOf form.object mech.op → NoneFrom world identity 0
        → form.is_ready s → form.knows s mech.op world since → HasSmall mech
        → Knows since (Some (newly_held form identity s since (offered form s mech))) (offered form s mech)
    named_knows identity since s mech command fresh ready knows small =
        let new = offered form s mech in
        let held = newly_held form identity s since new in
        let block = offered_block form mech in
        let less : block < 2 ^ 17 = needed_small (form.needs_block mech.op) mech.hand small in
        let offer = laws.of_world.offers world s mech.op since block command shape knows ready less in
        let is : IsOffered form world held.list s since = record { command = command; knows = knows; ready = ready; small = less; entries = refl } in
        let run : FastWalk = record { entries = (form.offer_of s mech.op block).entries; next = 0 } in
        let items = (form.offer_of s mech.op block).stores in
        let stores : ArrayVec (ℕ × ℕ) = record { items = stores_for (form.needs_block mech.op) items mech } in
        opens_knows (form.needs_block mech.op) run stores new since held
        (λ needs.
        let fills : stores.items ≡ own_stores (block_of mech.hand) mech.seat mech.number mech.op items = ap (λ c. stores_for c items mech) needs in
        let long : length stores.items ≡ 3 + length items = ap length fills ∙ omega arith in
        record { offered = is; running = (offer.some, offer.few); within = omega (arith, long); stored = λ k store below. absurd (omega (arith, below)); fresh = λ other j same took. fresh other j same (omega arith) took })
        (λ e. record {
          offered = is;
          running = (offer.some, offer.few);
          filled = λ first some. (let none : block ≡ 0 = ap (λ c. if c then block_of mech.hand else 0) e in absurd (omega (arith, some, none)));
          took = λ j below within. absurd (omega (arith, below));
          none = fresh;
        })

    readied_knows : (b : Bool) (identity since : ℕ) (s : S) (mech : Mech S W) → IsCommandOf form.object mech.op → NoneFrom world identity 0
        → form.is_ready s → form.knows s mech.op world since → HasSmall mech
        → (let new = if b then in_phase (Generate s LookForBlock) mech else offered form s mech in Knows since (Some (newly_held form identity s since new)) new)
    readied_knows true identity since s mech command fresh ready knows small = (ready, knows)
    readied_knows false identity since s mech command fresh ready knows small = named_knows identity since s mech command fresh ready knows small

    -- what a search was fed it knows
    pub searched_knows : (what : Found) (identity since : ℕ) (s : S) (mech : Mech S W) → IsCommandOf form.object mech.op → NoneFrom world identity 0
        → form.knows s mech.op world since → FoundWell form world mech.op since s what → HasSmall mech
        → (let new = searched form what s mech in Knows (if not (gave_up what) then since else length world.changes) (Some (newly_held form identity s since new)) new)
    searched_knows found.Going identity since s mech command fresh knows well small = (well, knows)
    searched_knows found.Ready identity since s mech command fresh knows well small = readied_knows (form.needs_block mech.op && holds_none mech.hand) identity since s mech command fresh well knows small
    searched_knows (found.Answer outcome) identity since s mech command fresh knows well small = told_knows outcome mech _ _
    searched_knows found.Contended identity since s mech command fresh knows well small =
        tried_knows (Some (newly_held form identity s since (searched form found.Contended s mech))) (record mech { failures = min (mech.failures + 1) mech.setup.limit }) command

    -- a ready search knows what it knew while it gets a block
    pub looked_knows : (b : Bool) (since : ℕ) (list : Mech S W → Option (Held S)) (s : S) (mech : Mech S W) → form.is_ready s → form.knows s mech.op world since
        → (let new = if b then in_phase (Generate s Claim) mech else in_phase (End Exhausted) mech in Knows since (list new) new)
    looked_knows true since list s mech ready knows = (ready, knows)
    looked_knows false since list s mech ready knows = tt

    pub claimed_knows : (b : Bool) (identity since block : ℕ) (s : S) (mech : Mech S W) → IsCommandOf form.object mech.op → NoneFrom world identity 0
        → form.is_ready s → form.knows s mech.op world since → (b ≡ true → block < 2 ^ 17)
        → (let new = if b then offered form s (with_hand (Some block) mech) else in_phase (End Exhausted) mech in Knows since (Some (newly_held form identity s since new)) new)
    claimed_knows true identity since block s mech command fresh ready knows small =
        named_knows identity since s (with_hand (Some block) mech) command fresh ready knows (λ other same. (let is : other ≡ block = cc in omega (arith, is, small refl)))
    claimed_knows false identity since block s mech command fresh ready knows small = tt
