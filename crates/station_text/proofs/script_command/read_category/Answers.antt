use Rattle.toml.specs.View.{table_view}
use Rattle.std.proofs.Common.{◌≡◌, Ok}
use Rattle.hex.specs.Hex.{decode_of}
use Rattle.sii_words.specs.Words.{bytes_of}
use Rattle.station_text.proofs.Readings.{turned_into}
use Rattle.station_text.proofs.ScriptRefusals.{no_content}
use Rattle.station_text.proofs.script_command.read_category.Goals as goal

pub returns-in_err-read_hex_words : goal.returns-in_err-read_hex_words
returns-in_err-read_hex_words c =
    let text = c.in-Some-find_text.found.now in
    turned_into _ _ _ (λ words. decode_of text ≡ Ok (bytes_of words)) _ c.from_residual.result c.in_err-read_hex_words.field-0.0 c.in_err-read_hex_words.ensures c.from_residual.ensures.1
    (no_content (table_view c.args.table.now) (table_view c.in-Some.found.now) text (rw c.in-Some.is at c.find_table.ensures) (rw c.in-Some-find_text.is at c.find_text.ensures))
