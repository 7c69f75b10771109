use Rattle.std.proofs.Common.{◌∙◌}
use Rattle.shared_memory.proofs.Opens.{opens}
use Rattle.shared_memory.proofs.port.Shared.make.Goals as goal

pub of_words-requires : goal.of_words-requires
of_words-requires g c = opens _ _ _ (c.as_slice.ensures.value ∙ c.in_ok-words.ensures.words)
