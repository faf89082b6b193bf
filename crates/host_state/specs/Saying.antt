-- What a rule's answer has a host say.
use Rattle.std.specs.Prelude.{◌≡◌, ◌<◌, ◌≤◌, ◌+◌, ◌-◌, ℕ, Bool, true, false, Option, None, Some, List, [], ◌∷◌}
use Rattle.homa_plain.specs.declared.packet.Body.{Body}
use Rattle.homa_plain.specs.declared.packet.Body.TheVariants as body
use Rattle.homa_plain.specs.declared.packet.Role.{Role}
use Rattle.homa_plain.specs.Wire.{FitsKind}
use Rattle.homa_plain.specs.Rules.{Say, Tells, Posts, Did}
use Rattle.host_view.specs.Marks.{mark_of}
use Rattle.host_state.specs.Control.{AreFit}
use Rattle.host_state.specs.declared.saying.Said.{Said}
use Rattle.host_state.specs.declared.saying.Said.TheVariants.{Nothing, Tell, Post}
use Rattle.host_state.specs.declared.saying.Outcome.{Outcome}
use Rattle.homa_plain.specs.Limits.{longest_message}

-- what is said is this entry, this packet, or nothing
abbrev pub AreSays : Said → List Say → Type 0
AreSays Nothing [] = Unit {0}
AreSays (Tell mark) (Tells entry ∷ []) = mark ≡ mark_of entry
AreSays (Post what) (Posts posted ∷ []) = what ≡ posted
AreSays said says = ⊥

-- what the rule says may be sent
abbrev pub FitsSaid : Role → Said → Type 0
FitsSaid role Nothing = Unit {0}
FitsSaid role (Tell mark) = Unit {0}
FitsSaid role (Post what) = FitsKind role 7 what []

-- the outcome is that of a rule
pub record IsOutcome {R : Type 0} (did : Did R) (o : Outcome) : Type 0 where
  pub opened : did.opened ≡ o.opened
  pub version : did.version ≡ o.version
  pub says : AreSays o.said did.says
  pub finished : did.finished ≡ o.finished

-- cutoffs in a packet have eight bounds, each at most 1,000,000
abbrev pub HasFitCutoffs : Body → Type 0
HasFitCutoffs (body.Cutoffs cutoffs) = AreFit cutoffs
HasFitCutoffs what = Unit {0}

-- how many entries come of what is said: the entry itself, or the `send` of a packet
abbrev pub marks_said : Said → ℕ
marks_said Nothing = 0
marks_said (Tell mark) = 1
marks_said (Post what) = 1

-- how many packets are sent for what is said
abbrev pub frames_said : Said → ℕ
frames_said Nothing = 0
frames_said (Tell mark) = 0
frames_said (Post what) = 1

-- 1 if there is a number, otherwise 0
abbrev pub one_of : Option ℕ → ℕ
one_of None = 0
one_of (Some n) = 1

-- 1 for true, otherwise 0
abbrev pub one_if : Bool → ℕ
one_if false = 0
one_if true = 1

-- how many entries a host prints at most for a rule's outcome
abbrev pub outcome_marks : Outcome → ℕ
outcome_marks o = one_of o.opened + one_of o.version + marks_said o.said + one_if o.finished

-- how many packets a host sends at most for a rule's outcome
abbrev pub outcome_frames : Outcome → ℕ
outcome_frames o = one_of o.version + frames_said o.said + one_if o.finished

-- a piece of a message of so many bytes
pub record IsPieceOf (length from to prio size : ℕ) : Type 0 where
  pub some : from < to
  pub inside : to ≤ length
  pub long : length ≡ size
  pub most : length ≤ longest_message
  pub short : to - from ≤ 1400
  pub level : prio ≤ 7
