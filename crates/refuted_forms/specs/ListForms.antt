-- The list with its search replaced by a wrong one.
use Rattle.std.specs.Prelude.{nat_lt, ◌&&◌, if◌then◌else◌, Bool, true, false}
use Rattle.step_memory.specs.declared.steps.Seen.{Seen}
use Rattle.normal_traits.specs.declared.form.Found.{Found}
use Rattle.normal_traits.specs.declared.form.Found.TheVariants.{Going, Ready}
use Rattle.normal_traits.specs.NormalForm.{NormalForm}
use Rattle.harris_list_form.specs.declared.states.Aim.{Aim}
use Rattle.harris_list_form.specs.declared.states.Aim.TheVariants.{Add, Del, Has}
use Rattle.harris_list_form.specs.declared.states.ListSearch.{ListSearch}
use Rattle.harris_list_form.specs.declared.states.ListSearch.TheVariants.{Next, Key, AddReady}
use Rattle.harris_list_form.specs.declared.states.ListWrap.{ListWrap}
use Rattle.harris_list_form.specs.Lists.{the_list}
use Rattle.harris_list_form.specs.Search.{fed}
use Rattle.harris_list_form.specs.Form.{list_form}

-- a list whose searches find and become this
abbrev pub list_with : (ListSearch → Seen → ListSearch × Found) → NormalForm ListSearch ListWrap
list_with met = record (list_form the_list) { found_of = λ search seen. (met search seen).1; feed_of = λ search seen. (met search seen).0 }

abbrev pub adds : Aim → Bool
adds Add = true
adds Del = false
adds Has = false

-- an add that has come to a higher key names its list, also from a left word whose bit is set
abbrev pub fed_at_a_set_bit : ListSearch → Seen → ListSearch × Found
fed_at_a_set_bit (Key sought left false cur next) seen =
    if adds sought.aim && nat_lt sought.key seen.before then (AddReady left cur, Ready) else fed (Key sought left false cur next) seen
fed_at_a_set_bit search seen = fed search seen

abbrev pub list_from_a_set_bit : NormalForm ListSearch ListWrap
list_from_a_set_bit = list_with fed_at_a_set_bit

-- a search that has loaded a node's next word goes on to its key, without a look at the mark
abbrev pub fed_past_a_mark : ListSearch → Seen → ListSearch × Found
fed_past_a_mark (Next sought left run cur) seen = (Key sought left run cur seen.before, Going)
fed_past_a_mark search seen = fed search seen

abbrev pub list_past_a_mark : NormalForm ListSearch ListWrap
list_past_a_mark = list_with fed_past_a_mark
