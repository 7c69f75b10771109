-- The file at the first place with the name is chosen, or none is.
use Rattle.std.proofs.Common.{ℕ, List, sym, subst, ap, ◌∙◌, rules, map, string_bytes, IsSome, arith, length, ◌≤◌}
use Rattle.whole_files.specs.MemoryFiles.{MemoryFiles}
use Rattle.whole_files.specs.Outside.{first_named}
use Rattle.whole_files.proofs.FirstNamed.{is_named_at, rest_at, named_nowhere, rest_nowhere}
use Rattle.whole_files.proofs.outside.memory_files.FilesInMemory.choose.Goals as goal

pub returns-in-Some-clause-found : goal.returns-in-Some-clause-found
returns-in-Some-clause-found c =
    let e = rw c.deref.ensures.value at c.file_place.ensures in
    let yes = is_named_at (λ file. string_bytes file.0) (λ file. file.1.items) c.args.name.now c.self.inside.files.items c.in-Some.place (sym e ∙ c.in-Some.is) in
    (λ _. subst (λ (m : MemoryFiles). IsSome (first_named c.args.name.now m.files)) c.self.view_is yes, λ _. search rules)

pub returns-in-Some-clause-chosen : goal.returns-in-Some-clause-chosen
returns-in-Some-clause-chosen c =
    let e = rw c.deref.ensures.value at c.file_place.ensures in
    let rest = rest_at (λ file. string_bytes file.0) (λ file. file.1.items) c.args.name.now c.self.inside.files.items c.in-Some.place (sym e ∙ c.in-Some.is) in
    let with_rest : List ℕ → MemoryFiles = λ r. record { files = map (λ file. (string_bytes file.0, file.1.items)) c.self.inside.files.items; fails = c.self.inside.fails.items; most = c.self.inside.most; calls = c.self.inside.calls; rest = r; opened = c.self.inside.opened.list; faults = c.self.inside.faults } in
    rw (← c.self.view_is) (ap with_rest rest)

pub returns-in-None-clause-found : goal.returns-in-None-clause-found
returns-in-None-clause-found c =
    let e = rw c.deref.ensures.value at c.file_place.ensures in
    let no = named_nowhere (λ file. string_bytes file.0) (λ file. file.1.items) c.args.name.now c.self.inside.files.items 0 (sym e ∙ c.in-None.is) in
    (λ h. search rules, λ h. let k = subst (λ (m : MemoryFiles). IsSome (first_named c.args.name.now m.files)) (sym c.self.view_is) h in let h' = rw no at k in search rules)

pub returns-in-None-clause-chosen : goal.returns-in-None-clause-chosen
returns-in-None-clause-chosen c =
    let e = rw c.deref.ensures.value at c.file_place.ensures in
    let past : length c.self.inside.files.items ≤ c.len-self-inside.result = omega (arith, c.len-self-inside.ensures, c.self.inside.files.ok.0) in
    let rest = rest_nowhere (λ file. string_bytes file.0) (λ file. file.1.items) c.args.name.now c.self.inside.files.items c.len-self-inside.result past (sym e ∙ c.in-None.is) in
    let with_rest : List ℕ → MemoryFiles = λ r. record { files = map (λ file. (string_bytes file.0, file.1.items)) c.self.inside.files.items; fails = c.self.inside.fails.items; most = c.self.inside.most; calls = c.self.inside.calls; rest = r; opened = c.self.inside.opened.list; faults = c.self.inside.faults } in
    rw (← c.self.view_is) (ap with_rest rest)
