use Rattle.qs_lexer.proofs.AsciiPieces.{ascii_begins, ascii_boundary, ascii_in_line}
use Rattle.qs_lexer.proofs.scan.cut_off.Goals as goal

pub split_at-requires : goal.split_at-requires
split_at-requires c =
    let found = c.args.found in
    ascii_boundary c.args.first c.args.text.now found.0 found.1 found.2 c.utf8.text c.requires

pub returns : goal.returns
returns c =
    let found = c.args.found in
    record {
      piece = ascii_begins c.args.first c.args.text.now found.0 found.1 found.2 c.utf8.text c.requires c.split_at.result.0.now c.split_at.result.1.now c.split_at.ensures.front c.split_at.ensures.back;
      in_line = ascii_in_line c.args.first c.args.text.now found.0 found.1 found.2 c.utf8.text c.requires c.split_at.result.0.now c.split_at.ensures.front;
    }
