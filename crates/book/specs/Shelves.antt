-- What a book's shelves hold, as a register.
use Rattle.std.specs.Prelude.{ℕ, List, map, Option}
use Rattle.std.specs.Option.{option_map}
use Rattle.book.specs.Register.{Register, Row}
use Rattle.book.specs.declared.book.Book.{Book}
use Rattle.records.specs.Lines.{section_line, embedment_line, shape_line, grid_line, site_line}

-- the lines of the records at the places
abbrev pub lines : {R : Type 0} → (R → List ℕ) → List (Option R) → Row
lines line places = map (option_map line) places

abbrev pub register_of : Book → Register
register_of b = record {
  sections = lines section_line b.sections;
  embedments = lines embedment_line b.embedments;
  shapes = lines shape_line b.shapes;
  grids = lines grid_line b.grids;
  sites = lines site_line b.sites;
}
