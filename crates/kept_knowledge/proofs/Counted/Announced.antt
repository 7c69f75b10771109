-- The op word and the value word of each seat are of its call or of an earlier one, after a move: but for their seat, which
-- announces its own call by them, nobody writes them.
use Rattle.std.proofs.Common.{◌≡◌, ◌≢◌, ◌∙◌, refl, sym, subst, ap, ℕ, ◌+◌, ◌^◌, ◌<◌, ◌≤◌, ◌⊎◌, inl, inr, true, List, ◌∷◌, slice_get, Option, Some, None, arith, Bool}
use Rattle.std.proofs.lemmas.Option.{slice_get_within}
use Rattle.lin_report.specs.declared.calls.Op.{Op}
use Rattle.word_fields.specs.Announced.{op_number, op_word, value_number, value_word}
use Rattle.word_fields.proofs.AnnouncedWords.{number-op_word, number-value_word}
use Rattle.node_arena.specs.MemoryMap.{block_place, op_place, value_place, MayBeClients}
use Rattle.node_arena.proofs.PlacesApart.{block_place_behind, engines_out}
use Rattle.normal_traits.specs.World.{World, is_word}
use Rattle.normal_traits.specs.NormalForm.{NormalForm}
use Rattle.normal_traits.specs.Laws.{Laws}
use Rattle.normal_traits.proofs.Stays.{word_beside, word_put}
use Rattle.fast_slow_engine.specs.declared.setup.Setup.{Setup}
use Rattle.fast_slow_engine.specs.Mechs.{Mech}
use Rattle.fast_slow_engine.specs.Runs.{AreMoves, Move, begun, run_of}
use Rattle.fast_slow_engine.proofs.SameCalls.{same_fed}
use Rattle.offered_blocks.specs.Blocks.{Offer}
use Rattle.offered_blocks.specs.Holds.{HasOffers}
use Rattle.offered_blocks.specs.HelperSteps.{Helps}
use Rattle.offered_blocks.specs.HelperSteps.Helps.{looks, installs_first, installs_second, succeeds, fails, clears_bit}
use Rattle.offered_blocks.proofs.Blocks.Places.{word_may}
use Rattle.run_laws.proofs.MachinesKept.{seats_stay}
use Rattle.run_queue.proofs.Runs.RunMoves.{runs_queued}
use Rattle.run_knowledge.specs.RunGhosts.{ghost_of, world_of}
use Rattle.run_knowledge.specs.Kept.{IsKept}
use Rattle.run_knowledge.specs.Tells.{IsAnnounced}
use Rattle.run_knowledge.proofs.Words.Moved.{seat_after, seen_by}
use Rattle.run_knowledge.proofs.Words.Seats.{machine_after}
use Rattle.run_knowledge.proofs.Bounds.InKept.{keeps_queue}
use Rattle.run_knowledge.proofs.InRuns.Rests.{known}
use Rattle.kept_knowledge.proofs.Counted.MoveTouches.{move_touches}
use Rattle.kept_knowledge.proofs.Counted.Touches.{IsEngines, Touches}
use Rattle.kept_knowledge.proofs.Counted.Touches.Touches.{leaves, puts, tells_value, tells_op, stores, wins, helps}

-- a place of an op word or a value word
abbrev IsOwnPlace : ℕ → Type 0
IsOwnPlace place = ((4 ≤ place) × (place < 12)) ⊎ ((24 ≤ place) × (place < 32))

engine_apart : (place other : ℕ) → IsOwnPlace place → IsEngines other → place ≢ other
engine_apart place other (inl here) (inl low) e = (let a = here.0 in absurd (omega (arith, a, low, e)))
engine_apart place other (inl here) (inr between) e = (let a = here.1 in let b = between.0 in absurd (omega (arith, a, b, e)))
engine_apart place other (inr here) (inl low) e = (let a = here.0 in absurd (omega (arith, a, low, e)))
engine_apart place other (inr here) (inr between) e = (let a = here.0 in let b = between.1 in absurd (omega (arith, a, b, e)))

own_below : (place : ℕ) → IsOwnPlace place → place < 32
own_below place (inl here) = (let low = here.1 in omega (arith, low))
own_below place (inr here) = here.1

own_out : (place : ℕ) → IsOwnPlace place → ¬ MayBeClients place
own_out place (inl here) = (let low = here.1 in engines_out place (inl (omega (arith, low))))
own_out place (inr here) = engines_out place (inr here)

client_apart : (is_root : ℕ → Bool) (world : World) (place other : ℕ) → IsOwnPlace place → is_word is_root world other ≡ true → place ≢ other
client_apart is_root world place other own is e = own_out place own (subst MayBeClients (sym e) (word_may is_root world other is))

block_apart : (place block field : ℕ) → IsOwnPlace place → place ≢ block_place block field
block_apart place block field own e = (let below = own_below place own in let behind = block_place_behind block field in absurd (omega (arith, below, behind, e)))

-- the two words of this seat are of the call of this number, which has this operation, or of an earlier one
record Announced (world : World) (seat number : ℕ) (op : Op) : Type 0 where
  op_is : op_number (world.words (op_place seat)) ≡ number → world.words (op_place seat) ≡ op_word op.code number op.key
  value_is : value_number (world.words (value_place seat)) ≡ number → world.words (value_place seat) ≡ value_word number op.value
  op_below : op_number (world.words (op_place seat)) ≤ number
  value_below : value_number (world.words (value_place seat)) ≤ number

-- so it is said of a machine
is_announced : {S W : Type 0} (world : World) (mech : Mech S W) (seat number : ℕ) (op : Op) (count : ℕ) → mech.seat ≡ seat → mech.number ≡ number → mech.op ≡ op → Announced world seat number op → IsAnnounced world mech count
is_announced world mech seat number op count s n o is =
    let here : Announced world mech.seat mech.number mech.op =
    subst (λ x. Announced world x mech.number mech.op) (sym s) (subst (λ x. Announced world seat x mech.op) (sym n) (subst (λ (x : Op). Announced world seat number x) (sym o) is)) in
    record { own = record { op = here.op_is; value = here.value_is }; op = here.op_below; value = here.value_below }

of_machine : {S W : Type 0} (world : World) (mech : Mech S W) (count : ℕ) → IsAnnounced world mech count → Announced world mech.seat mech.number mech.op
of_machine world mech count is = record { op_is = is.own.op; value_is = is.own.value; op_below = is.op; value_below = is.value }

module _ (world after : World) (seat number : ℕ) (op : Op) where
  -- it is kept where the two words are
  both_stay : after.words (op_place seat) ≡ world.words (op_place seat) → after.words (value_place seat) ≡ world.words (value_place seat) → Announced world seat number op → Announced after seat number op
  both_stay same same' is = record {
    op_is = λ makes. same ∙ is.op_is (sym (ap op_number same) ∙ makes);
    value_is = λ makes. same' ∙ is.value_is (sym (ap value_number same') ∙ makes);
    op_below = (let below = is.op_below in let e = ap op_number same in omega (arith, below, e));
    value_below = (let below = is.value_below in let e = ap value_number same' in omega (arith, below, e));
  }

  -- and where one of them is told
  value_told : number < 2 ^ 16 → after.words (op_place seat) ≡ world.words (op_place seat) → after.words (value_place seat) ≡ value_word number op.value → Announced world seat number op → Announced after seat number op
  value_told few same told is = record {
    op_is = λ makes. same ∙ is.op_is (sym (ap op_number same) ∙ makes);
    value_is = λ makes. told;
    op_below = (let below = is.op_below in let e = ap op_number same in omega (arith, below, e));
    value_below = (let e = ap value_number told ∙ number-value_word number op.value few in omega (arith, e));
  }

  op_told : number < 2 ^ 16 → op.code < 2 ^ 4 → after.words (op_place seat) ≡ op_word op.code number op.key → after.words (value_place seat) ≡ world.words (value_place seat) → Announced world seat number op → Announced after seat number op
  op_told few small told same is = record {
    op_is = λ makes. told;
    value_is = λ makes. same ∙ is.value_is (sym (ap value_number same) ∙ makes);
    op_below = (let e = ap op_number told ∙ number-op_word op.code number op.key small few in omega (arith, e));
    value_below = (let below = is.value_below in let e = ap value_number same in omega (arith, below, e));
  }

module _ {S W : Type 0} (form : NormalForm S W) (world after : World) (offers : ℕ → Option (Offer S)) (holds : HasOffers form world offers) where
  -- a helper leaves these words
  helps_leave : (block : ℕ) (offer : Offer S) → offers block ≡ Some offer → (w : World) → Helps form world offer w → (place : ℕ) → IsOwnPlace place → w.words place ≡ world.words place
  helps_leave block offer stands w looks place own = refl
  helps_leave block offer stands w (installs_first entry listed stood) place own =
      word_beside entry.target _ world.words place (client_apart form.is_root world place entry.target own ((holds.blocks.offered block offer stands).targets 0 entry listed).0)
  helps_leave block offer stands w (installs_second entry listed behind stood) place own =
      word_beside entry.target _ world.words place (client_apart form.is_root world place entry.target own ((holds.blocks.offered block offer stands).targets 1 entry listed).0)
  helps_leave block offer stands w (succeeds j entry listed behind pending shows) place own = word_beside (block_place offer.list.block (9 + j)) _ world.words place (block_apart place offer.list.block (9 + j) own)
  helps_leave block offer stands w (fails j entry listed behind pending past not) place own = word_beside (block_place offer.list.block (9 + j)) _ world.words place (block_apart place offer.list.block (9 + j) own)
  helps_leave block offer stands w (clears_bit j entry listed behind succeeded shows) place own =
      word_beside entry.target entry.to world.words place (client_apart form.is_root world place entry.target own ((holds.blocks.offered block offer stands).targets j entry listed).0)

  -- so does any step, but for those of the own announcement
  own_stays : (mech : Mech S W) → Touches form world after offers mech → (place : ℕ) → IsOwnPlace place → place ≢ value_place mech.seat → place ≢ op_place mech.seat → after.words place ≡ world.words place
  own_stays mech (leaves same) place own value op = ap (λ (w : World). w.words place) same
  own_stays mech (puts other word is put) place own value op = ap (λ (w : World). w.words place) put ∙ word_beside other word world.words place (engine_apart place other own is)
  own_stays mech (tells_value put) place own value op = ap (λ (w : World). w.words place) put ∙ word_beside (value_place mech.seat) _ world.words place value
  own_stays mech (tells_op small put) place own value op = ap (λ (w : World). w.words place) put ∙ word_beside (op_place mech.seat) _ world.words place op
  own_stays mech (stores block field word zero put) place own value op = ap (λ (w : World). w.words place) put ∙ word_beside (block_place block field) word world.words place (block_apart place block field own)
  own_stays mech (wins other word is) place own value op = ap (λ (f : ℕ → ℕ). f place) is.words ∙ word_beside other word world.words place (client_apart form.is_root world place other own is.client)
  own_stays mech (helps block offer stands is) place own value op = helps_leave block offer stands after is place own

  op_own : (seat : ℕ) → seat < 8 → IsOwnPlace (op_place seat)
  op_own seat few = inl (omega arith, omega (arith, few))

  value_own : (seat : ℕ) → seat < 8 → IsOwnPlace (value_place seat)
  value_own seat few = inr (omega arith, omega (arith, few))

  -- ---- of another seat

  others_announced : (mech : Mech S W) → mech.seat < 8 → Touches form world after offers mech → (seat number : ℕ) (op : Op) → seat < 8 → seat ≢ mech.seat → Announced world seat number op → Announced after seat number op
  others_announced mech few does seat number op small apart is =
      both_stay world after seat number op
      (own_stays mech does (op_place seat) (op_own seat small) (λ e. absurd (omega (arith, small, e))) (λ e. apart (omega (arith, e))))
      (own_stays mech does (value_place seat) (value_own seat small) (λ e. apart (omega (arith, e))) (λ e. absurd (omega (arith, few, e)))) is

  -- ---- of the mover

  mover_announced : (mech : Mech S W) → mech.seat < 8 → mech.number < 2 ^ 16 → Touches form world after offers mech → Announced world mech.seat mech.number mech.op → Announced after mech.seat mech.number mech.op
  mover_announced mech few small (leaves same) is = both_stay world after mech.seat mech.number mech.op (ap (λ (w : World). w.words (op_place mech.seat)) same) (ap (λ (w : World). w.words (value_place mech.seat)) same) is
  mover_announced mech few small (puts other word here put) is =
      both_stay world after mech.seat mech.number mech.op
      (ap (λ (w : World). w.words (op_place mech.seat)) put ∙ word_beside other word world.words (op_place mech.seat) (engine_apart (op_place mech.seat) other (op_own mech.seat few) here))
      (ap (λ (w : World). w.words (value_place mech.seat)) put ∙ word_beside other word world.words (value_place mech.seat) (engine_apart (value_place mech.seat) other (value_own mech.seat few) here)) is
  mover_announced mech few small (tells_value put) is =
      value_told world after mech.seat mech.number mech.op small
      (ap (λ (w : World). w.words (op_place mech.seat)) put ∙ word_beside (value_place mech.seat) _ world.words (op_place mech.seat) (λ e. absurd (omega (arith, few, e))))
      (ap (λ (w : World). w.words (value_place mech.seat)) put ∙ word_put (value_place mech.seat) _ world.words (value_place mech.seat) refl) is
  mover_announced mech few small (tells_op code put) is =
      op_told world after mech.seat mech.number mech.op small code
      (ap (λ (w : World). w.words (op_place mech.seat)) put ∙ word_put (op_place mech.seat) _ world.words (op_place mech.seat) refl)
      (ap (λ (w : World). w.words (value_place mech.seat)) put ∙ word_beside (op_place mech.seat) _ world.words (value_place mech.seat) (λ e. absurd (omega (arith, few, e)))) is
  mover_announced mech few small (stores block field word zero put) is =
      both_stay world after mech.seat mech.number mech.op
      (ap (λ (w : World). w.words (op_place mech.seat)) put ∙ word_beside (block_place block field) word world.words (op_place mech.seat) (block_apart (op_place mech.seat) block field (op_own mech.seat few)))
      (ap (λ (w : World). w.words (value_place mech.seat)) put ∙ word_beside (block_place block field) word world.words (value_place mech.seat) (block_apart (value_place mech.seat) block field (value_own mech.seat few))) is
  mover_announced mech few small (wins other word won) is =
      both_stay world after mech.seat mech.number mech.op
      (ap (λ (f : ℕ → ℕ). f (op_place mech.seat)) won.words ∙ word_beside other word world.words (op_place mech.seat) (client_apart form.is_root world (op_place mech.seat) other (op_own mech.seat few) won.client))
      (ap (λ (f : ℕ → ℕ). f (value_place mech.seat)) won.words ∙ word_beside other word world.words (value_place mech.seat) (client_apart form.is_root world (value_place mech.seat) other (value_own mech.seat few) won.client)) is
  mover_announced mech few small (helps block offer stands does) is =
      both_stay world after mech.seat mech.number mech.op (helps_leave block offer stands after does (op_place mech.seat) (op_own mech.seat few))
      (helps_leave block offer stands after does (value_place mech.seat) (value_own mech.seat few)) is

module _ {S W : Type 0} (form : NormalForm S W) (laws : Laws form) (setup : Setup) (older : List Move) (move : Move) (mech : Mech S W) (are : AreMoves form setup (move ∷ older))
    (at : slice_get (run_of form setup older).mechs move.seat ≡ Some mech) (kept : IsKept form setup older) where
  abbrev world : World
  world = world_of form setup older

  abbrev after : World
  after = world_of form setup (move ∷ older)

  abbrev offers : ℕ → Option (Offer S)
  offers = (ghost_of form setup older).offers

  -- a call that begins is announced by none of its words
  begun_announced : (begins : Option Op) → Announced world (begun begins mech).seat (begun begins mech).number (begun begins mech).op
  begun_announced None = of_machine world mech _ (kept.seats move.seat mech at).announced
  begun_announced (Some op) =
      let was = (kept.seats move.seat mech at).announced in
      let below = was.op in
      let below' = was.value in
      record {
        op_is = λ makes. absurd (omega (arith, makes, below));
        value_is = λ makes. absurd (omega (arith, makes, below'));
        op_below = omega (arith, below);
        value_below = omega (arith, below');
      }

  few_seats : (seat : ℕ) (mate : Mech S W) → slice_get (run_of form setup older).mechs seat ≡ Some mate → seat < 8
  few_seats seat mate found =
      let q = runs_queued form setup older are.0 (keeps_queue form setup older are.0 kept) in
      (let inside = slice_get_within (run_of form setup older).mechs seat mate found in let many = q.count in let most = setup.few_seats in omega (arith, inside, many, most))

  -- of the seat that moved
  pub announced_after : IsAnnounced after (machine_after form setup older move mech) (seat_after form setup older move mech).begun
  announced_after =
      let one = begun move.begins mech in
      let k = known form laws setup older move mech are at kept in
      let stays = same_fed form one (seen_by form setup older move mech) in
      is_announced after (machine_after form setup older move mech) one.seat one.number one.op _ stays.seat stays.number stays.op
      (mover_announced form world after offers kept.holds one k.few k.number (move_touches form laws setup older move mech are at kept) (begun_announced move.begins))

  -- and of the others
  pub others_announced_after : (seat : ℕ) (mate : Mech S W) → seat ≢ move.seat → slice_get (run_of form setup older).mechs seat ≡ Some mate → IsAnnounced after mate ((ghost_of form setup older).seats seat).begun
  others_announced_after seat mate apart found =
      let k = known form laws setup older move mech are at kept in
      let place = ((seats_stay form setup older are.0).own seat mate found).seat in
      let few = few_seats seat mate found in
      is_announced after mate mate.seat mate.number mate.op _ refl refl refl
      (others_announced form world after offers kept.holds (begun move.begins mech) k.few (move_touches form laws setup older move mech are at kept) mate.seat mate.number mate.op (omega (arith, place, few))
      (λ e. apart (sym place ∙ e ∙ k.seat_is)) (of_machine world mate _ (kept.seats seat mate found).announced))
