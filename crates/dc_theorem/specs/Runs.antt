-- Two runs of the program into which the same comes, and what they say and leave.
use Rattle.std.specs.Prelude.{◌≡◌, ℕ, ◌-◌, ◌^◌, ◌<◌, ◌&&◌, true, List, Some}
use Rattle.std.specs.List.{list_any}
use Rattle.dc_cli.specs.declared.tool.Tool.{Tool}
use Rattle.dc_conf.specs.Configuration.{Configuration}
use Rattle.dc_layer.specs.State.{is_pipe}
use Rattle.dc_outside.specs.Counts.{Counts}
use Rattle.dc_outside.specs.State.{LinkState}
use Rattle.dc_outside.specs.Disk.{Disk}
use Rattle.dc_outside.specs.Talk.{then_pieces, sent}
use Rattle.dc_outside.specs.declared.files.FilesCall.{FilesCall}
use Rattle.dc_outside.specs.declared.link.Piece.{Piece}
use Rattle.dc_serve.specs.Said.{said}
use Rattle.dc_run.specs.declared.outcome.End.TheVariants.{Done}
use Rattle.dc_run.specs.declared.outcome.Outcome.{Outcome}
use Rattle.dc_run.specs.declared.settings.Settings.{Settings}
use Rattle.dc_run.specs.EndLines.{HasSaid}
use Rattle.dc_run.specs.Headline.{HasRunWords}
use Rattle.dc_run.specs.Saves.{Save}
use Rattle.dc_run.specs.Starting.{IsConfiguration, databases_of}
use Rattle.dc_run.specs.World.{World}

-- ---- what comes in

-- no failure was counted, and the count wasn't at its last value, at which it stays
pub record NoneFailed (before now : Counts) : Type 0 where
  pub same : now.faults ≡ before.faults
  pub room : before.faults < 2 ^ 64 - 1

-- A run with these words and settings began over files that tell this disk and these calls on it. It did all that it was to do, and no
-- call of the files failed.
pub record IsClean (words : List (List ℕ)) (settings : Settings) (disk : Disk) (calls : List FilesCall) (old new : World) (outcome : Outcome) : Type 0 where
  pub files_are : old.stock.files.view ≡ record { disk = Some disk; calls = Some calls }
  pub saves : List Save
  pub ran : HasRunWords words settings old new outcome saves
  pub done : outcome.end ≡ Done
  pub none_failed : NoneFailed old.stock.files.counts new.stock.files.counts

-- one of the tool's databases, by a configuration on this disk, is read from the link
abbrev pub ReadsLink : Tool → Disk → List ℕ → Type 0
ReadsLink used disk path =
    (conf : Configuration) × IsConfiguration used (Some disk) path conf × (list_any (λ spec. is_pipe spec.sort && spec.infd) (databases_of used conf) ≡ true)

-- the same bytes come on two links, in whatever pieces, and no failure was counted there
pub record ComeAlike (one new other last : LinkState) : Type 0 where
  pub input : List ℕ
  pub one_input_is : one.input ≡ Some input
  pub other_input_is : other.input ≡ Some input
  pub none_failed : NoneFailed one.counts new.counts
  pub other_none_failed : NoneFailed other.counts last.counts

-- all is told of two terminals: the same was said there before, and the same is typed, in whatever pieces
pub record AreTypedAlike (one other : LinkState) : Type 0 where
  pub talk : List Piece
  pub other_talk : List Piece
  pub input : List ℕ
  pub one_talk_is : one.talk ≡ Some talk
  pub other_talk_is : other.talk ≡ Some other_talk
  pub said : sent talk ≡ sent other_talk
  pub one_input_is : one.input ≡ Some input
  pub other_input_is : other.input ≡ Some input

-- ---- what they say and leave

-- both wrote the same on their links, write by write
pub record SayAlike (one new other last : LinkState) : Type 0 where
  pub pieces : List Piece
  pub other_pieces : List Piece
  pub one_is : new.talk ≡ then_pieces one.talk pieces
  pub other_is : last.talk ≡ then_pieces other.talk other_pieces
  pub same : said pieces ≡ said other_pieces

-- all that was said on two terminals is the same
pub record AreShownAlike (new last : LinkState) : Type 0 where
  pub talk : List Piece
  pub other_talk : List Piece
  pub one_is : new.talk ≡ Some talk
  pub other_is : last.talk ≡ Some other_talk
  pub said : sent talk ≡ sent other_talk

-- both told the same on standard error, but for what a write there left out that wasn't done
pub record TellAlike (one new other last : LinkState) : Type 0 where
  pub text : List ℕ
  pub one_is : HasSaid text one new
  pub other_is : HasSaid text other last

-- They hold the same layers, left the same disk by the same calls, and had the same code of the last reply.
pub record LeaveAlike (one new : World) (outcome : Outcome) (other last : World) (again : Outcome) : Type 0 where
  pub used : last.stock.used ≡ new.stock.used
  pub files : last.stock.files.view ≡ new.stock.files.view
  pub err : TellAlike one.err new.err other.err last.err
  pub code : again.last_code ≡ outcome.last_code

-- two runs of `communicate` sent the same replies
pub record CommunicateAlike (one new : World) (outcome : Outcome) (other last : World) (again : Outcome) : Type 0 where
  pub leave : LeaveAlike one new outcome other last again
  pub replies : SayAlike one.links.io new.links.io other.links.io last.links.io
  pub status : again.status ≡ outcome.status

-- two runs of `run`, or of `answer`, sent the same replies, and the same stands on their terminals; the status is the program's
pub record RunAlike (one new : World) (outcome : Outcome) (other last : World) (again : Outcome) : Type 0 where
  pub leave : LeaveAlike one new outcome other last again
  pub replies : SayAlike one.links.child new.links.child other.links.child last.links.child
  pub shown : AreShownAlike new.links.io last.links.io

-- two runs of `show`, or of `get-selections`, printed the same
pub record ShowAlike (one new : World) (outcome : Outcome) (other last : World) (again : Outcome) : Type 0 where
  pub leave : LeaveAlike one new outcome other last again
  pub printed : SayAlike one.links.io new.links.io other.links.io last.links.io
  pub status : again.status ≡ outcome.status

-- two runs of `copydb` sent the same through a pipe, if they sent anything
pub record CopyAlike (one new : World) (outcome : Outcome) (other last : World) (again : Outcome) : Type 0 where
  pub leave : LeaveAlike one new outcome other last again
  pub sent : SayAlike one.links.io new.links.io other.links.io last.links.io
  pub status : again.status ≡ outcome.status

-- two runs of `loadtemplate`, or of `set-selections`
pub record LoadAlike (one new : World) (outcome : Outcome) (other last : World) (again : Outcome) : Type 0 where
  pub leave : LeaveAlike one new outcome other last again
  pub status : again.status ≡ outcome.status
