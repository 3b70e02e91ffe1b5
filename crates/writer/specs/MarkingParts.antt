-- What the marker's private functions say. Nothing of 02 is defined here: see Session.antt and Marking.antt.
use Rattle.std.specs.Prelude.{◌≡◌, true, ℕ, ◌+◌, ◌-◌, max, ◌≤◌, ◌<◌, length}
use Rattle.registers.specs.Text.{Text}
use Rattle.interpreter.specs.Box.{Box}
use Rattle.writer.specs.Marking.{fed, progress_of, sound_marker, most_lines, Lent}
use Rattle.writer.specs.declared.session.Stage.TheVariants.{Finding}
use Rattle.writer.specs.declared.session.Place.{Place}
use Rattle.writer.specs.declared.session.Marker.{Marker}

-- a part of a recorded answer, of which so many bytes were found before: no more than the box's has left, or one
pub record Recorded (q : Place) (n : ℕ) (room part : Text) : Type 0 where
  pub stage : q.stage ≡ Finding n
  pub some : 1 ≤ length part
  pub short : length part ≤ max 1 (q.waiting - n)
  pub holds : q.waiting ≤ length room

-- it was compared: its bytes lead there one after the other, whatever the box
pub record Compared (q : Place) (room part : Text) (r : Place) : Type 0 where
  pub is : (b : Box) → fed (record { box = b; room = room; place = q }) part ≡ record { box = b; room = room; place = r }
  pub number : r.number ≡ q.number
  pub waiting : r.waiting ≤ q.waiting

-- a marker that can take a piece
pub record Fits (m : Marker) (store room bytes : Text) : Type 0 where
  pub sound : sound_marker m ≡ true
  pub lent : Lent store room
  pub few : m.place.number < most_lines

pub record FedAll (m : Marker) (store room bytes : Text) (r : Marker) (store' room' : Text) : Type 0 where
  pub is : progress_of r store' room' ≡ fed (progress_of m store room) bytes
  pub sound : sound_marker r ≡ true
  pub lent : Lent store' room'
  pub number : r.place.number ≤ m.place.number + length bytes
