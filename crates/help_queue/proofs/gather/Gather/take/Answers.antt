use Rattle.std.proofs.Common.{ap, ◌∙◌, ◌++◌, ◌∷◌, [], cond}
use Rattle.help_queue.specs.Gathers.{is_open}
use Rattle.word_fields.specs.declared.records.RecordWord.{RecordWord}
use Rattle.help_queue.proofs.SeatsGathered.{found_fits, gather_goes_on, loads_more}
use Rattle.help_queue.proofs.gather.Gather.take.Goals as goal

pub note-requires-clause-room : goal.note-requires-clause-room
note-requires-clause-room c =
    found_fits (record { among = c.self.inside.among; word = c.self.inside.word; next = c.self.inside.next; found = c.self.inside.found.items }) c.self.invariant
    (loads_more (record { among = c.self.inside.among; word = c.self.inside.word; next = c.self.inside.next; found = c.self.inside.found.items }) c.args.self.now c.self.view_is c.requires)

pub invariant_of-self : goal.invariant_of-self
invariant_of-self c =
    let phase = ap (λ (r : RecordWord). is_open r.phase) c.unpack.ensures in
    let opened = c.is_open-opened.ensures ∙ phase in
    gather_goes_on c.self.inside.among c.self.inside.word c.self.inside.next c.first_out-self-inside.result c.args.record_word c.self.inside.found.items c.note.new.found.items c.self.invariant
    (loads_more (record { among = c.self.inside.among; word = c.self.inside.word; next = c.self.inside.next; found = c.self.inside.found.items }) c.args.self.now c.self.view_is c.requires) c.first_out-self-inside.ensures.first
    (c.note.ensures ∙ ap (λ b. cond b (c.self.inside.found.items ++ c.self.inside.next ∷ []) c.self.inside.found.items) opened)
