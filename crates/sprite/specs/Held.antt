-- What the code holds of a file, a row with data and a frame, and what these show. Assumes nothing. A file of its own, since the two types
-- have facts of their own and may not be named where those are stated.
use Rattle.std.specs.Prelude.{List}
use Rattle.sprite.specs.declared.files.Frame.{Frame}
use Rattle.sprite.specs.declared.files.Row.{Row}
use Rattle.sprite.specs.Frames.{Shade, Ended, row, rows}

abbrev pub row_of : Row → Ended Shade
row_of r = row r.s.now r.width r.first r.end

abbrev pub rows_of : Frame → Ended (List Shade)
rows_of f = rows f.s.now f.height f.width f.first
