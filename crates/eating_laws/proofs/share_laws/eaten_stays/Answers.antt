-- The three parts are lemmas.
use Rattle.eating_laws.proofs.Shares.{eaten_after, eaten_within, eaten_whole}
use Rattle.eating_laws.proofs.share_laws.eaten_stays.Goals as goal

pub returns : goal.returns
returns c market D e j table l = record {
  stays = λ t k. eaten_after market D t e j l k;
  within = eaten_within market D e table j l;
  whole = eaten_whole market D e table j l;
}
