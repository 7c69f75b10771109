use Rattle.bucket_set.proofs.Standing.{bucket_shape}
use Rattle.bucket_set.proofs.laws.buckets_stand_for_their_union.Goals as goal

pub returns : goal.returns
returns c = λ asked world shape. bucket_shape asked world shape
