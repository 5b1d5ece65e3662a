-- Which slaves a site owns.
use Rattle.std.specs.Prelude.{◌≡◌, ℕ, ◌<◌, ◌≤◌, List, length}
use Rattle.site_core.specs.Line.{Line, Owns}
use Rattle.site_core.specs.State.{Seen, word_counts}

-- The site owns the EEPROM half of every slave.
abbrev pub OwnsAll : Line → Type 0
OwnsAll line = (slave : ℕ) → slave < length line.sizes → Owns line slave

-- The sizes of the 1 to 64 slaves of a line, in words, as their halves hold them.
pub record AreSizes (sizes : List ℕ) (line : Line) (seen : Seen) : Type 0 where
  pub of_line : sizes ≡ line.sizes
  pub some : 1 ≤ length sizes
  pub most : length sizes ≤ 64
  pub held : sizes ≡ word_counts seen.state.halves
