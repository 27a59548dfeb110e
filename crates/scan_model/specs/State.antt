-- The state of a unit that is run, and how it stops ([cpp]).
use Rattle.std.specs.Prelude.{ℕ, Bool, List, Option}
use Rattle.scan_model.specs.declared.token.Tok.{Tok}
use Rattle.scan_model.specs.declared.expansion.Site.{Site}
use Rattle.scan_model.specs.declared.unit_end.Fault.{Fault}
use Rattle.scan_model.specs.declared.command.Settings.{Settings}
use Rattle.scan_model.specs.declared.command.Command.{Command}
use Rattle.scan_model.specs.Macros.{Macros}
use Rattle.scan_model.specs.Stream.{Piece}

-- An open conditional: the line of its `#if`; the tokens that stand here now aren't skipped; no later group of it can
-- be taken; its `#else` has come.
pub record Group : Type 0 where
  pub line : ℕ
  pub live : Bool
  pub taken : Bool
  pub past_else : Bool

-- what is run
pub record Setup : Type 0 where
  pub settings : Settings
  pub command : Command

-- what directives read and change; the place is the current file's in the chain of folders, where it has one
pub record Core : Type 0 where
  pub path : List ℕ
  pub site : Site
  pub chain_place : Option ℕ
  pub stack : List Group
  pub macros : Macros
  pub once : List ℕ → Bool
  pub entered : ℕ
  pub looked : List (List ℕ)

-- that, and the text: the pending run, the counter and the stream
pub record State : Type 0 where
  pub core : Core
  pub run : List Tok
  pub counter : ℕ
  pub stream : List Piece

pub data Cause : Type 0 where
  Faulty : Fault → Cause
  OutOfMemory : Cause
  Needs : List ℕ → Cause

-- a stop keeps what went before it
pub record Stop : Type 0 where
  pub cause : Cause
  pub looked : List (List ℕ)
  pub stream : List Piece

pub data Reached : Type 0 where
  Going : State → Reached
  Stopped : Stop → Reached

abbrev pub then_go : (State → Reached) → Reached → Reached
then_go further (Going s) = further s
then_go further (Stopped stop) = Stopped stop
