-- The clients and their forms.
use Rattle.std.proofs.Common.{[], refl}
use Rattle.lin_report.specs.declared.calls.Client.{Client}
use Rattle.lin_report.specs.declared.calls.Client.TheVariants as client
use Rattle.normal_traits.specs.World.{Listed}
use Rattle.ms_queue_form.proofs.AtOnce.{queue_changes_at_once}
use Rattle.harris_list_form.specs.Lists.{the_list}
use Rattle.harris_list_form.proofs.Calls.AtOnce.{list_changes_at_once}
use Rattle.bucket_set.specs.Buckets.{buckets}
use Rattle.client_reports.specs.Forms.{AtOnceButTheTree, BUCKETS}

a_list : Listed
a_list = record { identity = 0; call = record { seat = 0; number = 0; op = record { code = 0; key = 0; value = 0 } }; block = 0; entries = [] }

pub at_once_but_the_tree : (c : Client) → AtOnceButTheTree c
at_once_but_the_tree client.Queue = (λ at_once is. absurd cc, λ other. queue_changes_at_once)
at_once_but_the_tree client.List = (λ at_once is. absurd cc, λ other. list_changes_at_once the_list)
at_once_but_the_tree client.Tree = (λ at_once is. absurd (let none = at_once a_list in cc), λ other. absurd (other refl))
at_once_but_the_tree client.Buckets = (λ at_once is. absurd cc, λ other. list_changes_at_once (buckets BUCKETS))
