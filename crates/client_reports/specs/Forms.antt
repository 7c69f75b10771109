-- The structure of each client in normalized form, and which of them make their changes at once.
use Rattle.std.specs.Prelude.{ℕ, ◌≢◌, ◌↔◌}
use Rattle.lin_report.specs.declared.calls.Client.{Client}
use Rattle.lin_report.specs.declared.calls.Client.TheVariants as client
use Rattle.normal_traits.specs.AtOnce.{ChangesAtOnce}
use Rattle.normal_traits.specs.NormalForm.{NormalForm}
use Rattle.ms_queue_form.specs.declared.states.QueueSearch.{QueueSearch}
use Rattle.ms_queue_form.specs.declared.states.QueueWrap.{QueueWrap}
use Rattle.ms_queue_form.specs.Form.{queue_form}
use Rattle.harris_list_form.specs.declared.states.ListSearch.{ListSearch}
use Rattle.harris_list_form.specs.declared.states.ListWrap.{ListWrap}
use Rattle.harris_list_form.specs.Lists.{the_list}
use Rattle.harris_list_form.specs.Form.{list_form}
use Rattle.tree_help.specs.declared.states.Help.{Help}
use Rattle.ellen_tree_form.specs.declared.states.TreeSearch.{TreeSearch}
use Rattle.ellen_tree_form.specs.Form.{tree_form}
use Rattle.bucket_set.specs.Buckets.{buckets}

-- over how many lists the buckets are spread
abbrev pub BUCKETS : ℕ
BUCKETS = 32

-- what the searches of a client are, and its wrap-ups
abbrev pub SearchOf : Client → Type 0
SearchOf client.Queue = QueueSearch
SearchOf client.List = ListSearch
SearchOf client.Tree = TreeSearch
SearchOf client.Buckets = ListSearch

abbrev pub WrapOf : Client → Type 0
WrapOf client.Queue = QueueWrap
WrapOf client.List = ListWrap
WrapOf client.Tree = Help
WrapOf client.Buckets = ListWrap

-- the form of a client: all that a run of it is told by
abbrev pub form_of : (c : Client) → NormalForm (SearchOf c) (WrapOf c)
form_of client.Queue = queue_form
form_of client.List = list_form the_list
form_of client.Tree = tree_form
form_of client.Buckets = list_form (buckets BUCKETS)

-- the first entry of each list makes the change of its call, of every client but the tree, whose changes are made beside
-- its lists
abbrev pub AtOnceButTheTree : Client → Type 0
AtOnceButTheTree c = ChangesAtOnce (form_of c) ↔ (c ≢ client.Tree)
