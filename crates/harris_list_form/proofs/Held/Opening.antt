-- The shape of sorted lists holds at the opening, and what follows from the shape alone.
use Rattle.std.proofs.Common.{◌≡◌, ℕ, ◌<◌, Bool, true, false, List, [], ◌∷◌, ◌++◌, refl, ap, ◌∙◌, subst, inl, inr, arith}
use Rattle.std.specs.Prelude.{All}
use Rattle.std.proofs.lemmas.Bool.{false≢true}
use Rattle.lin_report.specs.Object.{object_of}
use Rattle.word_fields.specs.Versioned.{versioned_value}
use Rattle.node_arena.specs.Opening.{opening_word}
use Rattle.normal_traits.specs.World.{Cause, Won, Change, World, held_after, Observes}
use Rattle.normal_traits.specs.Laws.{opening_world}
use Rattle.harris_list_form.specs.Lists.{Lists, AreLists}
use Rattle.harris_list_form.specs.Search.{led}
use Rattle.harris_list_form.specs.Nodes.{rank_of, place_rank, IsLink}
use Rattle.harris_list_form.specs.Shape.{AreEffective, AreSorted}
use Rattle.harris_list_form.specs.Form.{list_form}
use Rattle.harris_list_form.proofs.Held.Places.{rank_start}
use Rattle.harris_list_form.proofs.Held.Sets.{object_is, effective_behind}
use Rattle.harris_list_form.proofs.Steps.Journal.{IsCause, known_cause}
use Rattle.client_lemmas.proofs.Words.{value_small}
use Rattle.client_lemmas.proofs.Growing.{all_among}
use Rattle.client_lemmas.proofs.Made.{none_made}

module _ (lists : Lists) (are : AreLists lists) where
  -- at the opening each list begins with null
  begins_null : (start place : ℕ) → IsLink lists [] start place → versioned_value (opening_word lists.client place) ≡ 0
  begins_null start place (inl at) = ap (λ p. versioned_value (opening_word lists.client p)) at.1 ∙ ap versioned_value (are.opening start at.0) ∙ value_small 0 (omega arith)
  begins_null start place (inr link) = absurd (false≢true link.1.node)

  leads_null : (start place : ℕ) → IsLink lists [] start place → led (opening_word lists.client place) ≡ 0
  leads_null start place link = omega (arith, begins_null start place link)

  rank_low : (start place : ℕ) → IsLink lists [] start place → place_rank [] place ≡ 0
  rank_low start place (inl at) = ap (place_rank []) at.1 ∙ rank_start [] start (are.within start at.0)
  rank_low start place (inr link) = absurd (false≢true link.1.node)

  pub opens : AreSorted lists (opening_world (list_form lists))
  opens =
      record {
        first = refl;
        stored = λ block node. absurd (false≢true node);
        effective = tt;
        made = none_made (opening_world (list_form lists)) refl;
        path = λ block. false;
        has_path = record {
          leading = record {
            nodes = λ block on. absurd (false≢true on);
            leads = λ start place link. inl (leads_null start place link);
            rises = λ start place link. omega (arith, rank_low start place link, ap (rank_of []) (leads_null start place link));
            along = λ start place link on some. absurd (some (leads_null start place link));
            nearest = λ start place block link on path_on. absurd (false≢true path_on);
            one_a_key = λ block other on. absurd (false≢true on);
          };
          living = record {
            starts = λ place is. omega (arith, ap versioned_value (are.opening place is), value_small 0 (omega arith));
            live = λ block node. absurd (false≢true node);
            held = λ block node. absurd (false≢true node);
            kept = λ key e. absurd (false≢true e);
          };
          journal = record { known = λ won a. absurd a; causes_differ = λ i j d order low. absurd (omega arith) };
        };
      }

  -- ---- what follows from the shape

  pub effective_at : (world : World) (newer older : List Change) (change : Change) → AreSorted lists world → world.changes ≡ newer ++ change ∷ older
      → ¬ Observes (object_of lists.client) change.list.call.op (held_after (object_of lists.client) older)
  effective_at world newer older change sorted split =
      effective_behind (object_of lists.client) (object_is lists.client are.sets) newer older change (subst AreEffective split sorted.effective)

  cause_within : (world : World) → AreSorted lists world → (path : ℕ → Bool) (cause : Cause) → IsCause world path cause → (world.used cause.block ≡ true) × (cause.kind < 8)
  cause_within world sorted path cause (block, node, inl e) = (ap (λ (c : Cause). world.used c.block) e ∙ (sorted.stored block node).used, omega (arith, ap (λ (c : Cause). c.kind) e))
  cause_within world sorted path cause (block, node, inr (inl (odd, e))) = (ap (λ (c : Cause). world.used c.block) e ∙ (sorted.stored block node).used, omega (arith, ap (λ (c : Cause). c.kind) e))
  cause_within world sorted path cause (block, node, inr (inr (off, e))) = (ap (λ (c : Cause). world.used c.block) e ∙ (sorted.stored block node).used, omega (arith, ap (λ (c : Cause). c.kind) e))

  pub causes_within : (world : World) → AreSorted lists world → All (λ (won : Won). (world.used won.cause.block ≡ true) × (won.cause.kind < 8)) world.journal
  causes_within world sorted =
      all_among (λ (won : Won). (world.used won.cause.block ≡ true) × (won.cause.kind < 8)) world.journal
      (λ won a. cause_within world sorted sorted.path won.cause (known_cause world sorted.path won won.maker (sorted.has_path.journal.known won a)))
