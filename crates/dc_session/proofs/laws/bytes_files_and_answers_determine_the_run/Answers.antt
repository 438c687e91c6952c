use Rattle.dc_session.proofs.Determined.{IsTold}
use Rattle.dc_session.proofs.RunLaws.{runs_alike, takes_does}
use Rattle.dc_session.specs.Machine.{TakesLine, Aborts}
use Rattle.dc_session.proofs.laws.bytes_files_and_answers_determine_the_run.Goals as goal

pub returns : goal.returns
returns c start other new last disk calls input talk new_talk told new_told left rest before code number files_told alike one two files =
    runs_alike TakesLine Aborts (λ s. IsTold disk s.files.view) (takes_does disk) start other new last input talk new_talk told new_told left rest before code number (calls, files_told) alike one two files
