-- What a file and its unit have that lines read and change, as the definitions see it.
use Rattle.std.specs.Prelude.{ℕ, List, map, reverse, Option, Some, None}
use Rattle.scan_model.specs.declared.expansion.Site.{Site}
use Rattle.scan_model.specs.Site.{first_site}
use Rattle.scan_model.specs.State.{Group, Core}
use Rattle.scan_model.specs.TokenTests.{is_among}
use Rattle.macro_table.specs.Table.{macros_of}
use Rattle.plain_lines.specs.declared.state.OpenGroup.{OpenGroup}
use Rattle.plain_lines.specs.declared.state.FileState.{FileState}
use Rattle.plain_lines.specs.declared.state.UnitState.{UnitState}

abbrev pub group_of : OpenGroup → Group
group_of g = record { line = g.line; live = g.live; taken = g.taken; past_else = g.past_else }

-- the innermost group is last in the code, and first here
abbrev pub groups_of : List OpenGroup → List Group
groups_of groups = map group_of (reverse groups)

-- where a file has none of its own it is that with which the file begins
abbrev pub site_of : List ℕ → Option Site → Site
site_of path None = first_site path
site_of path (Some site) = site

-- the state of a file at this path, after this many entries and these looks
abbrev pub core_of : List ℕ → ℕ → List (List ℕ) → FileState → UnitState → Core
core_of path entered looked file unit = record {
  path = path;
  site = site_of path file.site;
  chain_place = file.chain_place;
  stack = groups_of file.groups.items;
  macros = macros_of unit.macros;
  once = is_among unit.once;
  entered = entered;
  looked = looked;
}
