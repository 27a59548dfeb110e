use Rattle.command_words.proofs.SizeLemmas.{fits_of}
use Rattle.command_words.proofs.jobs.job.Goals as goal

pub returns-clause-fits : goal.returns-clause-fits
returns-clause-fits c = fits_of c.args.entry.now c.job_of.result c.job_of.ensures
