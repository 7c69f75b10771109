-- The stores of the parts, one behind the other.
use Rattle.std.proofs.Common.{append_assoc}
use Rattle.ellen_tree.proofs.offers.add_set_stores.Goals as goal

pub returns : goal.returns
returns c =
    record {
      stores = simp (c.add_swing.ensures.stores, c.add_inner.ensures.stores, c.add_leaf-2.ensures.stores, c.add_leaf.ensures.stores, c.leaf_on.ensures.leaf, c.leaf_on-2.ensures.leaf, c.from-own.ensures, c.from.ensures, append_assoc);
    }
