use Rattle.td_reader.proofs.Cursors.{digits_cut_at}
use Rattle.td_reader.proofs.cursor.split_digits.Goals as goal

pub returns : goal.returns
returns c =
    rw (c.split_at.ensures.front, c.split_at.ensures.back)
    (digits_cut_at c.args.bytes.now c.digits_len.result c.digits_len.ensures.within c.digits_len.ensures.digits
    c.digits_len.ensures.end)
