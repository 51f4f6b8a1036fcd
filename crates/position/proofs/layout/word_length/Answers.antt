-- `position::layout::word_length` meets its contract: the bytes that the layout of the code's words has. Assumes nothing.
use Rattle.position.proofs.layout.word_length.Goals as goal

pub returns : goal.returns
returns c =
    let (long, some, few) = c.bytes_in.ensures in (long _ c.layout_of.ensures, some, few)
