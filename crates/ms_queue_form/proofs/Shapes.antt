-- The shape of the queue is kept where no versioned word is written anew, and where the tail is moved.
use Rattle.std.proofs.Common.{◌≡◌, ℕ, ◌+◌, ◌/◌, ◌<◌, true, false, List, ◌∷◌, refl, sym, ap, ◌∙◌, arith}
use Rattle.word_fields.specs.Versioned.{versioned_value, versioned_version}
use Rattle.node_arena.specs.declared.places.TheConstants.{HEAD, TAIL, NODE_VALUE, NODE_NEXT}
use Rattle.node_arena.proofs.PlacesApart.{block-reference_to}
use Rattle.normal_traits.specs.World.{Maker, Change, World, is_word}
use Rattle.normal_traits.specs.World.Maker.{Beside}
use Rattle.normal_traits.specs.Steps.{with_word}
use Rattle.ms_queue_form.specs.Chain.{puts, node_block, node_at, next_of, value_of, is_versioned, is_root}
use Rattle.ms_queue_form.specs.Shape.{kind_of, cause_of, IsQueue}
use Rattle.ms_queue_form.proofs.Places.{next_versioned, value_not_versioned}
use Rattle.ms_queue_form.proofs.Chains.{SameChain, chain_stays}
use Rattle.ms_queue_form.proofs.Journal.{journal_stays, journal_grows}
use Rattle.ms_queue_form.proofs.Later.{Later}
use Rattle.normal_traits.proofs.Stays.{word_beside}
use Rattle.client_lemmas.proofs.Places.{behind_first, node_word}
use Rattle.client_lemmas.proofs.Later.{item_of}
use Rattle.client_lemmas.proofs.Made.{made_stay}

same_chain : (changes : List Change) → SameChain changes changes
same_chain changes = record { count = refl; blocks = λ k. refl; values = λ k. refl }

-- ---- nothing is won

-- other words, of the same changes, used blocks and won exchanges
abbrev pub with_words : (ℕ → ℕ) → World → World
with_words words world = record { words = words; changes = world.changes; used = world.used; journal = world.journal }

module _ (world : World) (words : ℕ → ℕ) (queue : IsQueue world) (kept : Later world (with_words words world))
    (versioned : (place : ℕ) → is_word is_root world place ≡ true → is_versioned place ≡ true
    → (versioned_value (words place) ≡ versioned_value (world.words place)) × (versioned_version (words place) ≡ versioned_version (world.words place)))
    (plain : (place : ℕ) → is_word is_root world place ≡ true → is_versioned place ≡ false → words place ≡ world.words place) where
  pub still : IsQueue (with_words words world)
  still =
      let head = versioned HEAD refl refl in
      let tail = versioned TAIL refl refl in
      let ends = queue.ends in
      record {
        chain = chain_stays world (with_words words world) queue.chain (same_chain world.changes) (λ block u. u)
            (λ k low. (versioned (next_of world.changes k) (node_word is_root world (node_block world.changes k) NODE_NEXT (omega arith) (queue.chain.used k low)) (next_versioned (node_block world.changes k))).0)
            (λ k low. plain (value_of world.changes (k + 1)) (node_word is_root world (node_block world.changes (k + 1)) NODE_VALUE (omega arith) (queue.chain.used (k + 1) (omega arith))) (value_not_versioned (node_block world.changes (k + 1))));
        ends = record {
          taken = head.1 ∙ ends.taken;
          head = head.0 ∙ ends.head;
          tail = tail.0 ∙ ends.tail ∙ ap (node_at world.changes) (sym tail.1);
          behind = omega (arith, ends.behind, tail.1);
          within = omega (arith, ends.within, tail.1);
        };
        holds = queue.holds;
        effective = queue.effective;
        made = made_stay world (with_words words world) kept.used kept.journal refl queue.made;
        journal = journal_stays world (with_words words world) kept (omega (arith, tail.1)) ends queue.journal refl;
      }

-- ---- the tail is moved

module _ (world : World) (queue : IsQueue world) (tail to : ℕ) (same : world.words TAIL ≡ tail) (raised : versioned_version to ≡ versioned_version tail + 1)
    (names : versioned_value to ≡ node_at world.changes (versioned_version tail + 1)) (within : versioned_version tail < puts world.changes) where
  abbrev pub swung : World
  swung =
      record {
        words = with_word TAIL to world.words;
        changes = world.changes;
        used = world.used;
        journal = item_of Beside (record { target = TAIL; from = tail; to = to }) (cause_of world Beside (record { target = TAIL; from = tail; to = to })) ∷ world.journal;
      }

  -- the cause of an exchange to a word that names a node is the node
  cause_is : (maker : Maker) (k : ℕ) → versioned_value to ≡ node_at world.changes k → cause_of world maker (record { target = TAIL; from = tail; to = to }) ≡ record { block = node_block world.changes k; kind = kind_of maker }
  cause_is maker k named = ap (λ block. record { block = block; kind = kind_of maker }) (ap (λ value. value / 4) named ∙ block-reference_to (node_block world.changes k) 1 (omega arith))

  pub tail_swings : Later world swung → IsQueue swung
  tail_swings kept =
      let ends = queue.ends in
      let at : versioned_version (world.words TAIL) ≡ versioned_version tail = ap versioned_version same in
      let moved : versioned_version (with_word TAIL to world.words TAIL) ≡ versioned_version tail + 1 = raised in
      let chain = chain_stays world swung queue.chain (same_chain world.changes) (λ block u. u)
      (λ k low. ap versioned_value (word_beside TAIL to world.words (next_of world.changes k) (behind_first (node_at world.changes k) NODE_NEXT TAIL (omega arith))))
      (λ k low. word_beside TAIL to world.words (value_of world.changes (k + 1)) (behind_first (node_at world.changes (k + 1)) NODE_VALUE TAIL (omega arith))) in
      record {
        chain = chain;
        ends = record {
          taken = ends.taken;
          head = ends.head;
          tail = names ∙ ap (node_at world.changes) (sym raised);
          behind = omega (arith, ends.behind, at, raised);
          within = omega (arith, within, raised);
        };
        holds = queue.holds;
        effective = queue.effective;
        made = made_stay world swung kept.used kept.journal refl queue.made;
        journal = journal_grows world swung kept (omega (arith, at, raised)) ends queue.journal chain _ refl
            (record { before = versioned_version tail; within = omega (arith, raised); node = names; cause = cause_is Beside (versioned_version tail + 1) names; made = tt })
            (sym at) (omega arith);
      }
