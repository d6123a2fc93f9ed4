use Rattle.std.proofs.Common.{◌≡◌, length, vec_items, ap}
use Rattle.sheets.specs.Words.{empty_size}
use Rattle.sheets.proofs.fields.no_bytes.Goals as goal

pub returns : goal.returns
returns c =
    let bs = vec_items c.new.result in
    let e : length bs ≡ 0 = ap length c.new.ensures.items in
    record { none = c.new.ensures.items; size = (e, empty_size bs e) }
