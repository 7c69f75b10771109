-- What the invariant of runs bounds: the used blocks, the places of the client's words, and their versions.
use Rattle.std.proofs.Common.{◌≡◌, ℕ, ◌^◌, ◌<◌, ◌≤◌, true, List, length, arith}
use Rattle.normal_traits.specs.World.{World, is_word}
use Rattle.normal_traits.specs.NormalForm.{NormalForm}
use Rattle.normal_traits.specs.Laws.{Laws}
use Rattle.fast_slow_engine.specs.declared.setup.Setup.{Setup}
use Rattle.fast_slow_engine.specs.Runs.{Move, AreMoves, run_of}
use Rattle.helper_knowledge.specs.HelperStep.{UsedSmall}
use Rattle.run_laws.specs.Claims.{KeepsClaims}
use Rattle.run_laws.proofs.CountersLeft.{client_keeps_claims}
use Rattle.run_queue.specs.Premises.{KeepsQueue}
use Rattle.run_world.specs.RunGhosts.{world_of}
use Rattle.run_hands.proofs.Blocks.Counts.{queue_kept}
use Rattle.run_hands.proofs.Blocks.Used.{used_claimed}
use Rattle.step_knowledge.specs.Moves.{HasRoom}
use Rattle.run_knowledge.specs.Kept.{IsKept}
use Rattle.run_knowledge.proofs.Bounds.Causes.{journal_few}
use Rattle.run_knowledge.proofs.Bounds.Words.{word_inside, words_count}
use Rattle.offered_blocks.proofs.Blocks.Places.{word_may}

module _ {S W : Type 0} (form : NormalForm S W) (setup : Setup) (moves : List Move) (are : AreMoves form setup moves) (kept : IsKept form setup moves) where
  abbrev world : World
  world = world_of form setup moves

  pub keeps_claims : KeepsClaims form setup moves
  keeps_claims = client_keeps_claims form setup moves kept.claims

  pub keeps_queue : KeepsQueue form setup moves
  keeps_queue = queue_kept form setup moves are keeps_claims kept.queue

  -- a used block is one of the run
  pub used_within : (block : ℕ) → world.used block ≡ true → block ≤ setup.cap
  used_within block on = (used_claimed form setup moves are keeps_claims block on).within

  pub used_small : UsedSmall world
  used_small block on = (let within = used_within block on in let few = setup.few_blocks in omega (arith, within, few))

  -- so a word of the client is in the memory, whose places are below 2^32
  pub inside : (place : ℕ) → is_word form.is_root world place ≡ true → place < length (run_of form setup moves).words
  inside place is = (let below = word_inside form.is_root world setup.cap used_within place is in let count = words_count form setup moves are in omega (arith, below, count))

  pub words_small : (place : ℕ) → is_word form.is_root world place ≡ true → place < 2 ^ 32
  words_small place is = (let below = word_inside form.is_root world setup.cap used_within place is in let few = setup.few_blocks in omega (arith, below, few))

  -- and there are few won exchanges, so each version has room for one more
  pub has_room : Laws form → HasRoom form world
  has_room laws place is versioned =
      let few = journal_few form world setup.cap laws kept.holds.shape used_within in
      let count = kept.versions place versioned (word_may form.is_root world place is) in
      let blocks = setup.few_blocks in
      omega (arith, few, count, blocks)
