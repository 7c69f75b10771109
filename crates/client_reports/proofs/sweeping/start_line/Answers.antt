use Rattle.std.proofs.Common.{arith, ◌≡◌, ◌∙◌, ◌++◌, codes, decimal, refl, ap, length}
use Rattle.client_reports.proofs.sweeping.start_line.Goals as goal

pub append-requires : goal.append-requires
append-requires c =
    let bytes = ap length (c.as_bytes.ensures.value ∙ c.as_str.ensures.value) in
    omega (arith, c.requires.room, bytes, c.push_str.ensures.len, c.push_named.ensures.len, ap length c.new-start.ensures)

pub returns : goal.returns
returns c =
    let bytes = c.as_bytes.ensures.value ∙ c.as_str.ensures.value in
    let long = ap length bytes in
    let named : c.push_named.new.text.bytes ≡ codes "stop " ++ decimal c.args.steps = c.push_named.ensures.bytes ∙ rw c.new-start.ensures refl in
    record {
      items = c.append.ensures.items ∙ ap (λ l. c.args.text.now.items ++ l) (bytes ∙ c.push_str.ensures.bytes ∙ ap (λ l. l ++ codes " ") named);
      len = omega (arith, c.append.ensures.len, long, c.push_str.ensures.len, c.push_named.ensures.len, ap length c.new-start.ensures);
      capacity = c.append.ensures.capacity;
    }
