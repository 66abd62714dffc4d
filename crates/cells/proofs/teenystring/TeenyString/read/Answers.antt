use Rattle.std.proofs.Common.{take, ap}
use Rattle.cells.proofs.Laid.{text_front}
use Rattle.cells.proofs.teenystring.TeenyString.read.Goals as goal

pub returns : goal.returns
returns c =
    let e = text_front c.args.self.now.word in
    let d = ap (take 7) c.to_le_bytes.ensures in
    cc
