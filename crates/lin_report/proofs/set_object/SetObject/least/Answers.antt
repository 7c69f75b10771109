use Rattle.std.proofs.lemmas.Bool.{false≢true}
use Rattle.lin_report.proofs.Sets.{kept-least, kept-none}
use Rattle.lin_report.proofs.set_object.SetObject.least.Goals as goal

pub returns-in-Some : goal.returns-in-Some
returns-in-Some c = kept-least c.self.inside.keys.keys _ c.self.view_is c.in-Some.key.now c.in-Some.ensures.member c.in-Some.ensures.least

pub returns-in-None : goal.returns-in-None
returns-in-None c = kept-none c.self.inside.keys.keys _ c.self.view_is (λ some. false≢true (c.in-None.ensures.variant.1 some))
