-- Laws of the proofs of `merged_frames` alone.
mod RaisedLaws
