-- The shape of the queue holds at the opening, and what follows from the shape alone.
use Rattle.std.proofs.Common.{◌≡◌, ◌+◌, ◌<◌, ◌≤◌, Bool, true, false, cond, List, [], ◌∷◌, ◌++◌, refl, ap, ◌∙◌, subst, arith}
use Rattle.std.specs.Prelude.{All}
use Rattle.std.proofs.lemmas.Bool.{ne_eqb}
use Rattle.lin_report.specs.declared.calls.Client.TheVariants.{Queue}
use Rattle.lin_report.specs.Object.{queue_object}
use Rattle.word_fields.specs.Versioned.{versioned_value, versioned_version}
use Rattle.word_fields.proofs.ChangedWords.{value-word, version-word}
use Rattle.node_arena.specs.declared.places.TheConstants.{HEAD, TAIL, NODE_NEXT}
use Rattle.node_arena.specs.MemoryMap.{node_place}
use Rattle.node_arena.specs.Opening.{opening_word, dummy_word}
use Rattle.normal_traits.specs.World.{Maker, Cause, Won, Change, World, held_after, Observes}
use Rattle.normal_traits.specs.World.Maker.{By, Beside}
use Rattle.normal_traits.specs.Laws.{opening_world}
use Rattle.ms_queue_form.specs.Search.{is_put}
use Rattle.ms_queue_form.specs.Chain.{puts}
use Rattle.ms_queue_form.specs.Shape.{kind_of, AreEffective, IsQueue}
use Rattle.ms_queue_form.specs.Form.{queue_form}
use Rattle.ms_queue_form.proofs.Journal.{reached_within}
use Rattle.client_lemmas.proofs.Words.{value_small}
use Rattle.client_lemmas.proofs.Places.{behind_first}
use Rattle.client_lemmas.proofs.Growing.{all_among}
use Rattle.client_lemmas.proofs.Made.{none_made}

dummy_value : versioned_value dummy_word ≡ 1
dummy_value = value-word 1 0 0 (omega arith) (omega arith)

dummy_version : versioned_version dummy_word ≡ 0
dummy_version = version-word 1 0 0 (omega arith) (omega arith)

opening_head : opening_word Queue HEAD ≡ dummy_word
unfolding opening_word
opening_head = refl

opening_tail : opening_word Queue TAIL ≡ dummy_word
unfolding opening_word
opening_tail = refl

opening_next : opening_word Queue (node_place 1 NODE_NEXT) ≡ 0
unfolding opening_word
opening_next =
    let place = node_place 1 NODE_NEXT in
    rw (ne_eqb place 20 (behind_first 1 NODE_NEXT 20 (omega arith)), ne_eqb place 21 (behind_first 1 NODE_NEXT 21 (omega arith))) refl

pub opens : IsQueue (opening_world queue_form)
opens =
    record {
      chain = record {
        dummy = refl;
        used = λ k low. refl;
        apart = λ i k order low. absurd (omega arith);
        linked = λ k low. absurd (omega arith);
        last = ap versioned_value opening_next ∙ value_small 0 (omega arith);
        valued = λ k low. absurd (omega arith);
      };
      ends = record {
        taken = ap versioned_version opening_head ∙ dummy_version;
        head = ap versioned_value opening_head ∙ dummy_value;
        tail = ap versioned_value opening_tail ∙ dummy_value;
        behind = omega arith;
        within = omega (arith, ap versioned_version opening_tail, dummy_version);
      };
      holds = record { count = refl; at = λ i low. absurd (omega arith) };
      effective = tt;
      made = none_made (opening_world queue_form) refl;
      journal = record { known = λ won a. absurd a; causes_differ = λ i j d order low. absurd (omega arith) };
    }

-- ---- what follows from the shape

effective_behind : (newer older : List Change) (change : Change) → AreEffective (newer ++ change ∷ older) → ¬ Observes queue_object change.list.call.op (held_after queue_object older)
effective_behind [] older change effective = effective.0
effective_behind (newest ∷ newer) older change effective = effective_behind newer older change effective.1

pub effective_at : (world : World) (newer older : List Change) (change : Change) → IsQueue world → world.changes ≡ newer ++ change ∷ older → ¬ Observes queue_object change.list.call.op (held_after queue_object older)
effective_at world newer older change queue split = effective_behind newer older change (subst AreEffective split queue.effective)

kind_below : (maker : Maker) → kind_of maker < 8
kind_below (By list j) = by_put (is_put list.call.op)
  where
    by_put : (put : Bool) → cond put 0 1 < 8
    by_put true = omega arith
    by_put false = omega arith
kind_below Beside = omega arith

pub causes_within : (world : World) → IsQueue world → All (λ (won : Won). (world.used won.cause.block ≡ true) × (won.cause.kind < 8)) world.journal
causes_within world queue =
    all_among (λ (won : Won). (world.used won.cause.block ≡ true) × (won.cause.kind < 8)) world.journal
    (λ won a.
    let known = queue.journal.known won a in
    let low : known.before + 1 ≤ puts world.changes = omega (arith, known.within, reached_within world queue.ends (kind_of won.maker)) in
    (ap (λ (cause : Cause). world.used cause.block) known.cause ∙ queue.chain.used (known.before + 1) low, omega (arith, ap (λ (cause : Cause). cause.kind) known.cause, kind_below won.maker)))
