-- The search that the fields of a way stand for.
use Rattle.harris_list_form.specs.declared.states.ListSearch.{ListSearch}
use Rattle.harris_list_form.specs.declared.states.ListSearch.TheVariants.{Start, Next, Key, Unlink, AddReady, DelReady, LeastStart, LeastNext, LeastUnlink, LeastKey}
use Rattle.harris_list.specs.declared.way.Stage.{Stage}
use Rattle.harris_list.specs.declared.way.Stage.TheVariants as stage
use Rattle.harris_list.specs.declared.way.Way.{Way}

-- the search at a stage, with the fields that this stage needs
abbrev pub search_in : Stage → Way → ListSearch
search_in stage.Start way = Start way.sought way.left.place
search_in stage.Next way = Next way.sought way.left way.run way.cur
search_in stage.Key way = Key way.sought way.left way.run way.cur way.next
search_in stage.Unlink way = Unlink way.sought way.left way.cur way.next way.found
search_in stage.AddReady way = AddReady way.left way.cur
search_in stage.DelReady way = DelReady way.left way.cur way.next
search_in stage.LeastStart way = LeastStart way.left.place
search_in stage.LeastNext way = LeastNext way.left way.run way.cur
search_in stage.LeastUnlink way = LeastUnlink way.left way.cur
search_in stage.LeastKey way = LeastKey way.cur

-- the value of a search that stands so on its way
abbrev pub search_at : Way → ListSearch
search_at way = search_in way.stage way
