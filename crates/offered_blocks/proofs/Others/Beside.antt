-- Requests of searches and wrap-ups, and entries of lists that no record has named, are exchanges beside the offered
-- lists.
use Rattle.std.proofs.Common.{◌≡◌, ◌∙◌, refl, ap, ℕ, ◌==◌, ◌&&◌, Bool, inl, inr, ◌⊎◌, Option}
use Rattle.std.proofs.lemmas.Bool.{ne_eqb}
use Rattle.step_memory.specs.declared.steps.Request.{Request}
use Rattle.step_memory.specs.declared.steps.Request.TheVariants.{Load, Store, Exchange, Add}
use Rattle.step_memory.specs.declared.steps.Seen.{Seen}
use Rattle.word_fields.specs.Versioned.{versioned_bit}
use Rattle.word_fields.proofs.ChangedWords.{bit-changed}
use Rattle.normal_traits.specs.declared.lists.Entry.{Entry}
use Rattle.normal_traits.specs.World.{World}
use Rattle.normal_traits.specs.World.Maker.{Beside}
use Rattle.normal_traits.specs.NormalForm.{NormalForm}
use Rattle.normal_traits.specs.Laws.{AsksWell, Laws}
use Rattle.normal_traits.specs.Steps.{IsStep, Requested}
use Rattle.normal_traits.specs.Steps.Requested.{loaded, lost, won}
use Rattle.normal_traits.proofs.Stays.{entry_good}
use Rattle.offered_blocks.specs.Blocks.{Offer}
use Rattle.offered_blocks.specs.BesideLaws.{EntriesBeside}
use Rattle.offered_blocks.specs.OtherSteps.{IsExchange}

module _ {S W : Type 0} (form : NormalForm S W) where
  abbrev IsBeside : World → World → (ℕ → Option (Offer S)) → Type 0
  IsBeside world after offers = (after ≡ world) ⊎ ((entry : Entry) × IsExchange form world after offers Beside (form.adds_beside world entry) entry)

  load_beside : (world : World) (offers : ℕ → Option (Offer S)) (at : ℕ) (after : World) (seen : Seen) → Requested form (Load at) world after seen → IsBeside world after offers
  load_beside world offers at after seen (loaded at') = inl refl

  exchange_beside : (world : World) (offers : ℕ → Option (Offer S)) (at from to : ℕ) (after : World) (seen : Seen) → AsksWell form world (Exchange at from to) → Requested form (Exchange at from to) world after seen → IsStep form world after
      → IsBeside world after offers
  exchange_beside world offers at from to after seen asks (lost at' from' to' differs) step = inl refl
  exchange_beside world offers at from to after seen asks (won at' from' to' stood raised) step =
      inr (
        record { target = at; from = from; to = to },
        record {
          step = step;
          word = asks.0;
          versioned = asks.1;
          clear = asks.2;
          to_clear = ap versioned_bit asks.3.2 ∙ bit-changed from asks.3.0 asks.3.1;
          stood = stood;
          raised = raised;
          words = refl;
          changes = refl;
          journal = refl;
          beside = λ block offer stands j. refl;
          used = λ block was. was;
          uses = λ block on. inl on;
        },
      )

  pub request_beside : (world : World) (offers : ℕ → Option (Offer S)) (request : Request) (after : World) (seen : Seen) → AsksWell form world request → Requested form request world after seen → IsStep form world after
      → IsBeside world after offers
  request_beside world offers (Load at) after seen asks r step = load_beside world offers at after seen r
  request_beside world offers (Exchange at from to) after seen asks r step = exchange_beside world offers at from to after seen asks r step
  request_beside world offers (Store at value) after seen asks r step = absurd asks
  request_beside world offers (Add at by) after seen asks r step = absurd asks

  pub entries_beside : (laws : Laws form) → EntriesBeside form
  entries_beside laws world offers list search since j entry used shape offered apart more few listed stood raised step =
      let good = entry_good form laws world list search since j entry shape offered listed in
      record {
        step = step;
        word = good.word;
        versioned = good.versioned;
        clear = λ listable. good.clear;
        to_clear = ap versioned_bit good.changed.2 ∙ bit-changed entry.from good.changed.0 good.changed.1;
        stood = stood;
        raised = raised;
        words = refl;
        changes = refl;
        journal = refl;
        beside = λ block offer stands k. ap (λ (b : Bool). b && (j == k)) (ne_eqb list.identity offer.list.identity (apart block offer stands));
        used = more;
        uses = few;
      }
