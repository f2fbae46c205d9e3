-- All that is claimed of the definitions, for any hash function.
use Rattle.std.specs.Prelude.{ℕ, List}
use Rattle.reading.specs.Answer.{Got}
use Rattle.format.specs.Header.{Header}
use Rattle.format.specs.Load.{Loaded}
use Rattle.format.specs.DebugStates.{DebugStates, CountedStates}
use Rattle.format.specs.Record.{Container}
use Rattle.format.specs.ProgramLimit.{ProgramLimit}
use Rattle.format.specs.OwnRecord.{PlacesHold, OwnRecord}
use Rattle.format.specs.RunSide.{Premises, RunSideIndependence, RunSideOfRecords}
use Rattle.format.specs.UnknownTables.{UnknownTables, UnknownTablesOfRecords}
use Rattle.format.specs.Order.{Order}
use Rattle.format.specs.Refusals.{Refusals}
use Rattle.format.specs.Debug.{Line}
use Rattle.format.specs.Indexing.{Indexing}
use Rattle.format.specs.LineFound.{LineFound}
use Rattle.format.specs.Examples.{FirstHalfNotVacuous, TypesPremiseNeeded, EmptyCodePlaceNeeded, ContentHashNeeded, SecondHalfNotVacuous}
use Rattle.format.specs.Cases.{Cases, WrongTurns}
use Rattle.format.specs.Layouts.{Layouts, MillCounts, HashLimit}

pub record Claims (hash : List ℕ → List ℕ) : Type 0 where
  pub refusals : Refusals hash
  pub order : Order
  pub debug-states : (f : List ℕ) (h : Header) → DebugStates hash f h
  pub counted-states : CountedStates
  pub places-hold : (f : List ℕ) (r : Container) → PlacesHold f r
  pub own-record : OwnRecord hash
  pub indexing : Indexing
  pub line-found : (function query : ℕ) (es : List Line) → LineFound function query es
  pub premises : Premises
  pub run-side-independence : RunSideIndependence hash
  pub run-side-of-records : RunSideOfRecords hash
  pub unknown-tables : UnknownTables hash
  pub unknown-tables-of-records : UnknownTablesOfRecords hash
  pub first-half-not-vacuous : FirstHalfNotVacuous hash
  pub types-premise-needed : TypesPremiseNeeded hash
  pub empty-code-place-needed : EmptyCodePlaceNeeded hash
  pub content-hash-needed : ContentHashNeeded hash
  pub second-half-not-vacuous : SecondHalfNotVacuous hash
  pub cases : Cases hash
  pub wrong-turns : WrongTurns hash
  pub layouts : Layouts
  pub mill-counts : MillCounts hash
  pub hash-limit : HashLimit
  pub program-loads : (library : List ℕ → Got Loaded) → ProgramLimit library
  pub program-reads : (library : List ℕ → Got Container) → ProgramLimit library

abbrev pub AllClaims : Type 0
AllClaims = (hash : List ℕ → List ℕ) → Claims hash
