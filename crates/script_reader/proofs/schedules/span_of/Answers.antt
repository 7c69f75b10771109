use Rattle.std.proofs.Common.{◌≡◌, ℕ, List, Ok, refl, sym, subst, arith, rules}
use Rattle.std.specs.Prelude.{codes}
use Rattle.std.proofs.lemmas.Slice.Eq.{text_from_reads}
use Rattle.script_reader.specs.declared.schedules.Span.TheVariants.{ToExchange}
use Rattle.script_reader.specs.Schedules.{span_of}
use Rattle.script_reader.proofs.schedules.span_of.Goals as goal

pub returns-in-exchange : goal.returns-in-exchange
returns-in-exchange c =
    let text : c.args.word.now ≡ codes "exchange" = text_from_reads c.args.word.now (codes "exchange") (omega arith) (search rules) in
    subst (λ (word : List ℕ). Ok ToExchange ≡ span_of word) (sym text) refl
