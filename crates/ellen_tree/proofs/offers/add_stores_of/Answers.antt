-- The search is ready for an insertion.
use Rattle.ellen_tree.proofs.offers.add_stores_of.Goals as goal

pub returns-in-SetReady-clause-stores : goal.returns-in-SetReady-clause-stores
returns-in-SetReady-clause-stores c = rw c.in-SetReady.is c.add_set_stores.ensures.stores
